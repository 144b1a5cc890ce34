-- Each form of 03 §3 gets the answer there, and no other form does.
use Prim.Native.Nat.{ℕ, ◌-◌, ◌/◌, ◌%◌}
use native.Mathlib.Omega.{arith}
use mathlib.Core.Bool.{true}
use mathlib.Core.Path.{◌≡◌, refl}
use lib.Dec.{leb, ltb, eqb}
use borrow.Author.Tests.{ltb-false, eqb-true, eqb-false, le-ltb, le-leb, eq-eqb, ne_eqb}
use Rattle.model.specs.Pick.{both}
use Rattle.model.specs.Request.{fits, in_ok, out_ok, exactly, verdict, status}
use Rattle.model.specs.declared.Disk.{Disk}
use Rattle.model.specs.declared.Job.{Job}
use Rattle.model.specs.declared.Job.TheVariants.{Unsupported}
use Rattle.model.proofs.Tests.{told, on, both-split}
use Rattle.requests.specs.Table.{Fit, Accepted, reads, writes, flushes, tells, Other}

fit-true : (n sector c : ℕ) → fits n sector c ≡ true → Fit n sector c
unfolding fits
fit-true n sector c e =
    let a = both-split (eqb (n % 512) 0) _ e in
    let b = both-split (leb n 1048576) _ a.1 in
    let d = both-split (leb sector c) _ b.1 in
    record { whole = omega told; short = omega told; from = omega told; upto = omega told }

true-fit : (n sector c : ℕ) → Fit n sector c → fits n sector c ≡ true
unfolding fits
true-fit n sector c f =
    rw (eq-eqb (n % 512) 0 f.whole, le-leb n 1048576 f.short, le-leb sector c f.from, le-leb (n / 512) (c - sector) f.upto)

-- a form that is accepted gets its answer ..
pub accepted-served : (d : Disk) (type sector r w : ℕ) (job : Job) → Accepted d type sector r w job → (verdict d type sector r w ≡ job) × (status job ≡ 0)
unfolding verdict in_ok out_ok exactly status
accepted-served d type sector r w job (reads t l f) =
    (rw (le-ltb r 16 (omega arith), eq-eqb type 0 t, eq-eqb r 16 l, true-fit (w - 1) sector d.sectors f), refl)
accepted-served d type sector r w job (writes t l o f n) =
    (rw (le-ltb r 16 l, ne_eqb type 0 (λ z. omega arith), eq-eqb type 1 t, eq-eqb w 1 o, true-fit (r - 16) sector d.sectors f, eq-eqb d.ro 0 n), refl)
accepted-served d type sector r w job (flushes t l o) =
    (rw (le-ltb r 16 (omega arith), ne_eqb type 0 (λ z. omega arith), ne_eqb type 1 (λ z. omega arith), eq-eqb type 4 t, eq-eqb r 16 l, eq-eqb w 1 o), refl)
accepted-served d type sector r w job (tells t l o) =
    (rw (le-ltb r 16 (omega arith), ne_eqb type 0 (λ z. omega arith), ne_eqb type 1 (λ z. omega arith), ne_eqb type 4 (λ z. omega arith), eq-eqb type 8 t, eq-eqb r 16 l, eq-eqb w 21 o), refl)

-- .. and what gets status 0 is of an accepted form
pub served-accepted : (d : Disk) (type sector r w : ℕ) → status (verdict d type sector r w) ≡ 0 → Accepted d type sector r w (verdict d type sector r w)
unfolding verdict in_ok out_ok exactly status
served-accepted d type sector r w =
    let P : Job → Type 0 = λ j. status j ≡ 0 → Accepted d type sector r w j in
    on P (ltb r 16) (λ a h. absurd (omega arith))
    (λ a. on P (eqb type 0)
    (λ t. on P (both (eqb r 16) (fits (w - 1) sector d.sectors))
    (λ e h. let k = both-split (eqb r 16) _ e in
    reads (eqb-true type 0 t) (eqb-true r 16 k.0) (fit-true (w - 1) sector d.sectors k.1))
    (λ e h. absurd (omega arith)))
    (λ t₀. on P (eqb type 1)
    (λ t. on P (both (eqb w 1) (both (fits (r - 16) sector d.sectors) (eqb d.ro 0)))
    (λ e h. let k = both-split (eqb w 1) _ e in
    let l = both-split (fits (r - 16) sector d.sectors) _ k.1 in
    writes (eqb-true type 1 t) (ltb-false r 16 a) (eqb-true w 1 k.0) (fit-true (r - 16) sector d.sectors l.0) (eqb-true d.ro 0 l.1))
    (λ e h. absurd (omega arith)))
    (λ t₁. on P (eqb type 4)
    (λ t. on P (both (eqb r 16) (eqb w 1))
    (λ e h. let k = both-split (eqb r 16) _ e in flushes (eqb-true type 4 t) (eqb-true r 16 k.0) (eqb-true w 1 k.1))
    (λ e h. absurd (omega arith)))
    (λ t₄. on P (eqb type 8)
    (λ t. on P (both (eqb r 16) (eqb w 21))
    (λ e h. let k = both-split (eqb r 16) _ e in tells (eqb-true type 8 t) (eqb-true r 16 k.0) (eqb-true w 21 k.1))
    (λ e h. absurd (omega arith)))
    (λ t₈ h. absurd (omega arith))))))

-- Status 2 is for other types with a header, and only for them; so whatever is neither accepted nor such has status 1.
pub other-unsupported : (d : Disk) (type sector r w : ℕ) → Other type r → verdict d type sector r w ≡ Unsupported
unfolding verdict
other-unsupported d type sector r w o =
    rw (le-ltb r 16 o.headed, ne_eqb type 0 o.not_in, ne_eqb type 1 o.not-out, ne_eqb type 4 o.not-flush, ne_eqb type 8 o.not-id)

pub unsupported-other : (d : Disk) (type sector r w : ℕ) → status (verdict d type sector r w) ≡ 2 → Other type r
unfolding verdict in_ok out_ok exactly status
unsupported-other d type sector r w =
    let P : Job → Type 0 = λ j. status j ≡ 2 → Other type r in
    on P (ltb r 16) (λ a h. absurd (omega arith))
    (λ a. on P (eqb type 0) (λ t. on P (both (eqb r 16) (fits (w - 1) sector d.sectors)) (λ e h. absurd (omega arith)) (λ e h. absurd (omega arith)))
    (λ t₀. on P (eqb type 1)
    (λ t. on P (both (eqb w 1) (both (fits (r - 16) sector d.sectors) (eqb d.ro 0))) (λ e h. absurd (omega arith)) (λ e h. absurd (omega arith)))
    (λ t₁. on P (eqb type 4) (λ t. on P (both (eqb r 16) (eqb w 1)) (λ e h. absurd (omega arith)) (λ e h. absurd (omega arith)))
    (λ t₄. on P (eqb type 8) (λ t. on P (both (eqb r 16) (eqb w 21)) (λ e h. absurd (omega arith)) (λ e h. absurd (omega arith)))
    (λ t₈ h.
    record {
      headed = ltb-false r 16 a;
      not_in = eqb-false type 0 t₀;
      not-out = eqb-false type 1 t₁;
      not-flush = eqb-false type 4 t₄;
      not-id = eqb-false type 8 t₈;
    })))))
