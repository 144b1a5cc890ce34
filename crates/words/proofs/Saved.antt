-- What is saved is found again: the words after a step decode to the model's state.
use Prim.Native.Nat.{ℕ, ◌+◌, ◌≤◌, ◌<◌}
use mathlib.Core.List.{List, [], ◌∷◌, ◌++◌}
use mathlib.Core.Path.{◌≡◌, refl, sym, ◌∙◌, ap}
use native.Mathlib.Omega.{arith}
use lib.ListN.{get_or, length, set, length-set}
use lib.Seq.{get_or-set_same, get_or-set_other}
use Rattle.model.specs.Bytes.{put}
use Rattle.model.proofs.Lists.{Apart, put_in, put-apart, put-cons, put_same, put-same-last, put-over, length-put}
use Rattle.words.specs.declared.Row.{Row}
use Rattle.words.specs.Layout.{state_words, job_tag, job_sector, job_of, row_of, phase_of, row_at, row_words, saved, kept, taken_word, answered_word, tag_word, descs_word, saved_words}
use Rattle.model.specs.declared.Job.{Job}
use Rattle.model.specs.declared.Job.TheVariants.{Failed, Unsupported, Done, Read, Write, Identity}
use Rattle.model.specs.declared.Phase.{Phase}
use Rattle.model.specs.declared.Phase.TheVariants.{Poll, Entry, Chain, Header, Payload, Answer, Publish, Broken}

job-again : (job : Job) → job_of (job_tag job) (job_sector job) ≡ job
unfolding job_tag job_sector job_of
job-again Failed = refl
job-again Unsupported = refl
job-again Done = refl
job-again (Read s) = refl
job-again (Write s) = refl
job-again Identity = refl

pub phase-again : (p : Phase) → phase_of (row_of p) ≡ p
unfolding row_of phase_of
phase-again Poll = refl
phase-again Entry = refl
phase-again (Chain k cur) = refl
phase-again (Header k p got) = refl
phase-again (Payload k p s got) = refl
phase-again (Answer k job got) = ap (λ (j : Job). Answer k j got) (job-again job)
phase-again (Publish k got) = refl
phase-again (Broken reason head count at) = refl

-- the counters and the last complete chain's number first, then the phase's words
pub saved-row : (s : List ℕ) (t a n : ℕ) (p : Phase) (x : Row) → state_words ≤ length s → x ≡ row_of p
    → put (set (set (set s taken_word t) answered_word a) descs_word n) tag_word (row_words x) ≡ saved s t a n p
unfolding saved row_words
saved-row s t a n p x h e =
    let z = set (set s taken_word t) answered_word a in
    let r = row_words (row_of p) in
    let l : descs_word < length z = simp length-set (omega arith) in
    let y : get_or (set z descs_word n) descs_word 0 ≡ n = get_or-set_same z descs_word n 0 l in
    rw e
    (sym (put-same-last (set z descs_word n) tag_word r (simp length-set (omega arith))) ∙ rw y (put-over z tag_word (r ++ (n ∷ [])) descs_word n (omega arith) (omega arith))
    ∙ sym (put-cons s taken_word t (a ∷ (r ++ (n ∷ []))) ∙ put-cons (set s taken_word t) answered_word a (r ++ (n ∷ []))))

-- all but the phase lies there already
pub kept_row : (s : List ℕ) (p : Phase) (x : Row) → state_words ≤ length s → x ≡ row_of p → put s tag_word (row_words x) ≡ kept s p
unfolding saved row_words
kept_row s p x h e =
    let r = row_words (row_of p) in
    rw e
    (sym
    (put_same s taken_word (get_or s answered_word 0 ∷ (r ++ (get_or s descs_word 0 ∷ []))) (omega arith) ∙ put_same s answered_word (r ++ (get_or s descs_word 0 ∷ [])) (omega arith)
    ∙ put-same-last s tag_word r (omega arith)))

-- S3 stores the last complete chain's number first
pub kept-descs : (s : List ℕ) (n : ℕ) (p : Phase) → state_words ≤ length s → kept (set s descs_word n) p ≡ saved s (get_or s taken_word 0) (get_or s answered_word 0) n p
unfolding saved row_words
kept-descs s n p h =
    let l : descs_word < length s = omega arith in
    rw (get_or-set_same s descs_word n 0 l, get_or-set_other s descs_word taken_word n 0 (λ z. omega arith), get_or-set_other s descs_word answered_word n 0 (λ z. omega arith))
    (put-over s taken_word (get_or s taken_word 0 ∷ get_or s answered_word 0 ∷ (row_words (row_of p) ++ (n ∷ []))) descs_word n (omega arith) (omega arith))

-- word taken_word + j of a saved state
word-saved : (s : List ℕ) (t a n : ℕ) (p : Phase) → state_words ≤ length s → (j : ℕ) → j < saved_words
    → get_or (saved s t a n p) (taken_word + j) 0 ≡ get_or (t ∷ a ∷ (row_words (row_of p) ++ (n ∷ []))) j 0
unfolding saved row_words
word-saved s t a n p h j l = put_in s taken_word (t ∷ a ∷ (row_words (row_of p) ++ (n ∷ []))) j l (omega arith)

pub row-saved : (s : List ℕ) (t a n : ℕ) (p : Phase) → state_words ≤ length s → row_at (saved s t a n p) ≡ row_of p
unfolding row_at row_words
row-saved s t a n p h =
    rw (
      word-saved s t a n p h 2 (omega arith),
      word-saved s t a n p h 3 (omega arith),
      word-saved s t a n p h 4 (omega arith),
      word-saved s t a n p h 5 (omega arith),
      word-saved s t a n p h 6 (omega arith),
      word-saved s t a n p h 7 (omega arith),
      word-saved s t a n p h 8 (omega arith),
      word-saved s t a n p h 9 (omega arith),
      word-saved s t a n p h 10 (omega arith),
      word-saved s t a n p h 11 (omega arith),
    )

pub phase-saved : (s : List ℕ) (t a n : ℕ) (p : Phase) → state_words ≤ length s → phase_of (row_at (saved s t a n p)) ≡ p
phase-saved s t a n p h = ap phase_of (row-saved s t a n p h) ∙ phase-again p

pub taken-saved : (s : List ℕ) (t a n : ℕ) (p : Phase) → state_words ≤ length s → get_or (saved s t a n p) taken_word 0 ≡ t
taken-saved s t a n p h = word-saved s t a n p h 0 (omega arith)

pub answered-saved : (s : List ℕ) (t a n : ℕ) (p : Phase) → state_words ≤ length s → get_or (saved s t a n p) answered_word 0 ≡ a
answered-saved s t a n p h = word-saved s t a n p h 1 (omega arith)

pub descs-saved : (s : List ℕ) (t a n : ℕ) (p : Phase) → state_words ≤ length s → get_or (saved s t a n p) descs_word 0 ≡ n
unfolding row_words
descs-saved s t a n p h = word-saved s t a n p h 12 (omega arith)

-- the words that set-up wrote stay
pub others-saved : (s : List ℕ) (t a n : ℕ) (p : Phase) (i : ℕ) → Apart i taken_word saved_words → get_or (saved s t a n p) i 0 ≡ get_or s i 0
unfolding saved row_words
others-saved s t a n p i h = put-apart s taken_word (t ∷ a ∷ (row_words (row_of p) ++ (n ∷ []))) i h

pub length-saved : (s : List ℕ) (t a n : ℕ) (p : Phase) → length (saved s t a n p) ≡ length s
unfolding saved
length-saved s t a n p = length-put s taken_word (t ∷ a ∷ (row_words (row_of p) ++ (n ∷ [])))

-- for `grind`: a row that was stored is the saved phase
pub ruleset rows = (saved-row, kept_row, length-set)
