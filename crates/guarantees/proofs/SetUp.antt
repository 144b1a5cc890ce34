-- 4, set-up: a call that is refused changes nothing. What is refused is in the definitions that the contracts cite; here: a refusal leaves every word.
use Prim.Native.Nat.{ℕ, ◌*◌}
use mathlib.Core.List.{List}
use mathlib.Core.Path.{◌≡◌, refl}
use lib.Dec.{leb, ltb, eqb}
use lib.ListN.{length}
use Rattle.model.specs.Pick.{both}
use Rattle.model.specs.Memory.{regions, memory_code}
use Rattle.model.specs.Ring.{areas}
use Rattle.model.specs.Request.{disk_code}
use Rattle.model.proofs.Tests.{on}
use Rattle.words.specs.Layout.{state_words, map_words, level}
use Rattle.hostiledisk.specs.Calls.{Set, hd_memory, hd_disk, numbered, enabled_with, hd_enable_at}
use Rattle.std.specs.Prelude.{Result, Ok, Err}
use Rattle.model.specs.declared.Queue.{Queue}

-- refused, or done
abbrev Keeps : List ℕ → Set → Type 0
Keeps s x = (x.code ≡ 0 → ⊥) → x.state ≡ s

pub memory-refused : (s ws : List ℕ) (m : ℕ) → ((hd_memory s ws m).code ≡ 0 → ⊥) → (hd_memory s ws m).state ≡ s
unfolding hd_memory
memory-refused s ws m =
    on (Keeps s) (ltb (length s) state_words) (λ e n. refl) (λ e. on (Keeps s) (eqb (memory_code m ws) 0) (λ f n. absurd (n refl)) (λ f n. refl))

pub disk-refused : (s : List ℕ) (start sectors ro : ℕ) (id : List ℕ) (b : ℕ) → ((hd_disk s start sectors ro id b).code ≡ 0 → ⊥) → (hd_disk s start sectors ro id b).state ≡ s
unfolding hd_disk
disk-refused s start sectors ro id b =
    on (Keeps s) (ltb (length s) state_words) (λ e n. refl)
    (λ e. on (Keeps s) (both (leb 1 (level s)) (leb (level s) 2))
    (λ e. on (Keeps s) (eqb (length id) 20) (λ e. on (Keeps s) (eqb (disk_code start sectors b) 0) (λ f n. absurd (n refl)) (λ f n. refl)) (λ e n. refl))
    (λ e n. refl))

enabled-refused : (s : List ℕ) (c g start : ℕ) (x : Result Queue ℕ) → Keeps s (enabled_with s c g start x)
unfolding enabled_with
enabled-refused s c g start (Err n) = λ e. refl
enabled-refused s c g start (Ok q) =
    on (Keeps s) (ltb c (2 * q.size)) (λ e n. refl)
    (λ e. on (Keeps s) (ltb g 1048576) (λ e n. refl) (λ e. on (Keeps s) (leb 65536 start) (λ e n. refl) (λ e n. absurd (n refl))))

pub enable-refused : (s : List ℕ) (size desc avail used c g start : ℕ) → ((hd_enable_at s size desc avail used c g start).code ≡ 0 → ⊥)
    → (hd_enable_at s size desc avail used c g start).state ≡ s
unfolding hd_enable_at
enable-refused s size desc avail used c g start =
    on (Keeps s) (ltb (length s) state_words) (λ e n. refl)
    (λ e. on (Keeps s) (eqb (level s) 2) (λ f. enabled-refused s c g start (numbered (areas (regions (map_words s)) size desc avail used))) (λ f n. refl))
