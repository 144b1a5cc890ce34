-- Memory (01 §1): the regions that a host registers, what set-up refuses, and where a range of guest bytes lies in the slice.
-- All sums are over ℕ, so none wraps.
use Rattle.std.specs.Prelude.{ℕ, ◌+◌, ◌-◌, ◌^◌, ◌/◌, ◌%◌, Bool, true, false, List, [], ◌∷◌, ◌++◌, length, leb, ltb, eqb, Option, Some, None}
use Rattle.model.specs.Pick.{pick, both}

-- "A region maps guest addresses g up to, not including, g + len to the slice's bytes from o up to o + len."
pub record Region : Type 0 where
  pub guest : ℕ
  pub len : ℕ
  pub place : ℕ

abbrev pub region : ℕ → ℕ → ℕ → Region
region g l o = record { guest = g; len = l; place = o }

-- three words each: guest address, length, offset in the slice. One or two words at the end are no region.
unfoldable pub regions : List ℕ → List Region
regions [] = []
regions (a ∷ []) = []
regions (a ∷ b ∷ []) = []
regions (g ∷ l ∷ o ∷ rest) = region g l o ∷ regions rest

-- "refuses one of length 0 (21), one that leaves the slice (22), one whose g + len exceeds 2^64 - 1 (23)"; m is the slice's length
unfoldable pub region_code : ℕ → Region → ℕ
region_code m r = pick (eqb r.len 0) 21 (pick (ltb m (r.place + r.len)) 22 (pick (ltb (2 ^ 64 - 1) (r.guest + r.len)) 23 0))

-- the l addresses from g on and the k from h on have one in common: those that begin later begin before the others end
unfoldable pub overlap : ℕ → ℕ → ℕ → ℕ → Bool
overlap g l h k = pick (ltb g h) (ltb h (g + l)) (ltb g (h + k))

unfoldable pub clash : List Region → ℕ → ℕ → Bool
clash [] g l = false
clash (s ∷ seen) g l = pick (overlap g l s.guest s.len) true (clash seen g l)

-- "takes the regions in order", those before being `seen`: ".. and one whose guest addresses overlap an earlier one's (24)"
unfoldable pub regions_code : ℕ → List Region → List Region → ℕ
regions_code m seen [] = 0
regions_code m seen (r ∷ rest) =
    pick (eqb (region_code m r) 0) (pick (clash seen r.guest r.len) 24 (regions_code m (seen ++ (r ∷ [])) rest)) (region_code m r)

-- the most regions that a map may have (DEV-13)
abbrev pub regions_max : ℕ
regions_max = 32

-- "1 to" that many "regions .. refuses another number of regions (answer 20)"; a number of words that is no multiple of 3 is 20 too
unfoldable pub memory_code : ℕ → List ℕ → ℕ
memory_code m words =
    pick (both (eqb (length words % 3) 0) (both (leb 1 (length words / 3)) (leb (length words / 3) regions_max))) (regions_code m [] (regions words)) 20

-- each region by itself is one that set-up allows
unfoldable pub sound : ℕ → List Region → Bool
sound m [] = true
sound m (r ∷ rest) = pick (eqb (region_code m r) 0) (sound m rest) false

-- "A range of n >= 1 guest bytes from address a is in memory if one region contains all of it."
unfoldable pub contains : ℕ → ℕ → ℕ → ℕ → Bool
contains g l a n = both (leb 1 n) (both (leb g a) (leb (a + n) (g + l)))

-- where a range lies in the slice: in the first region that contains it
unfoldable pub locate : List Region → ℕ → ℕ → Option ℕ
locate [] a n = None
locate (r ∷ rest) a n = pick (contains r.guest r.len a n) (Some (r.place + (a - r.guest))) (locate rest a n)
