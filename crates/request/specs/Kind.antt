-- 03 §3: the types of request by the number in the header.
use Rattle.std.specs.Prelude.{◌≡◌, ◌≢◌, ℕ, Result, MatchResult}
use Rattle.request.specs.declared.Kind.{Kind}
use Rattle.request.specs.declared.Kind.TheVariants.{In, Out, Flush, GetId}
use Rattle.request.specs.declared.UnknownKind.{UnknownKind}

abbrev pub number_of : Kind → ℕ
number_of In = 0
number_of Out = 1
number_of Flush = 4
number_of GetId = 8

-- the type with this number, or none where no type has it
abbrev pub Numbered : ℕ → Result Kind UnknownKind → Type 0
Numbered n r = MatchResult r (λ kind. n ≡ number_of kind) (λ e. (kind : Kind) → n ≢ number_of kind)
