-- A payload is fetched only for a disk that is not read-only, so nothing else is ever stored.
use Prim.Native.Nat.{ℕ, ◌+◌, ◌-◌}
use mathlib.Core.List.{List, []}
use mathlib.Core.Path.{◌≡◌, refl}
use lib.Dec.{leb, ltb, eqb}
use borrow.Author.Tests.{eqb-true}
use Rattle.model.specs.Pick.{both}
use Rattle.model.specs.Bytes.{put, word}
use Rattle.model.specs.Ring.{polled, headed, pending}
use Rattle.model.specs.Chain.{desc_at, tested, tally, complete, described}
use Rattle.model.specs.Request.{fits, in_ok, out_ok, exactly, verdict, decided}
use Rattle.model.specs.Step.{Cfg, left, lacks, ends, onward, gathered, paid, next, effect, disk_stores}
use Rattle.model.proofs.Tests.{on, both_r}
use Rattle.guarantees.specs.Good.{Open}
use Rattle.model.specs.declared.Desc.{Desc}
use Rattle.model.specs.declared.Tested.{Tested}
use Rattle.model.specs.declared.Tested.TheVariants.{Bad, Next, Last}
use Rattle.model.specs.declared.Disk.{Disk}
use Rattle.model.specs.declared.Walk.{Walk}
use Rattle.model.specs.declared.Place.{Place}
use Rattle.model.specs.declared.Job.{Job}
use Rattle.model.specs.declared.Phase.{Phase}
use Rattle.model.specs.declared.Phase.TheVariants.{Poll, Entry, Chain, Header, Payload, Answer, Publish, Broken}

open-complete : (ro : ℕ) (k : Walk) (cur : ℕ) → Open ro (complete k cur)
unfolding complete Open
open-complete ro k cur = on (Open ro) (leb k.count k.reads) (λ e. tt) (λ e. on (Open ro) (ltb k.r 16) (λ f. tt) (λ f. tt))

open-chain : (ro : ℕ) (k : Walk) (cur : ℕ) (d : Desc) (t : Tested) → Open ro (described k cur d t)
unfolding described Open
open-chain ro k cur d (Bad n) = tt
open-chain ro k cur d (Next x) = tt
open-chain ro k cur d (Last x) = open-complete ro (tally k d.flags d.len) cur

open-decided : (d : Disk) (k : Walk) (p : Place) (type sector : ℕ) → Open d.ro (decided k p (verdict d type sector k.r k.w))
unfolding verdict decided Open in_ok out_ok exactly
open-decided d k p type sector =
    let P : Job → Type 0 = λ j. Open d.ro (decided k p j) in
    on P (ltb k.r 16) (λ e. tt)
    (λ e. on P (eqb type 0) (λ e. on P (both (eqb k.r 16) (fits (k.w - 1) sector d.sectors)) (λ f. tt) (λ f. tt))
    (λ e. on P (eqb type 1)
    (λ e. on P (both (eqb k.w 1) (both (fits (k.r - 16) sector d.sectors) (eqb d.ro 0)))
    (λ f. let a = both_r (eqb k.w 1) (both (fits (k.r - 16) sector d.sectors) (eqb d.ro 0)) f in
    let b : d.ro ≡ 0 = eqb-true d.ro 0 (both_r (fits (k.r - 16) sector d.sectors) (eqb d.ro 0) a) in
    on (Open d.ro) (ltb 16 k.r) (λ e. b) (λ e. tt))
    (λ f. tt))
    (λ e. on P (eqb type 4) (λ e. on P (both (eqb k.r 16) (eqb k.w 1)) (λ f. tt) (λ f. tt))
    (λ e. on P (eqb type 8) (λ e. on P (both (eqb k.r 16) (eqb k.w 21)) (λ f. tt) (λ f. tt)) (λ e. tt)))))

pub keeps-open : (c : Cfg) (t : ℕ) (chain stage : List ℕ) (p : Phase) (f : List ℕ) → Open c.disk.ro p → Open c.disk.ro (next c t chain stage p f)
unfolding next polled headed gathered paid Open
keeps-open c t chain stage Poll f o =
    on (Open c.disk.ro) (eqb (pending (word 2 0 f) t) 0) (λ e. tt) (λ e. on (Open c.disk.ro) (ltb c.queue.size (pending (word 2 0 f) t)) (λ e. tt) (λ e. tt))
keeps-open c t chain stage Entry f o = on (Open c.disk.ro) (leb c.queue.size (word 2 0 f)) (λ e. tt) (λ e. tt)
keeps-open c t chain stage (Chain k cur) f o = open-chain c.disk.ro k cur (desc_at 0 f) (tested c.map c.queue.size k (desc_at 0 f))
keeps-open c t chain stage (Header k p got) f o =
    let l = (left chain p).len in
    on (Open c.disk.ro) (ltb (got + lacks got l) 16) (λ e. tt)
    (λ e. open-decided c.disk k (onward p l (lacks got l)) (word 4 0 (put stage got f)) (word 8 8 (put stage got f)))
keeps-open c t chain stage (Payload k p s got) f o = on (Open c.disk.ro) (ends k got (left chain p).len) (λ e. tt) (λ e. o)
keeps-open c t chain stage (Answer k job got) f o = tt
keeps-open c t chain stage (Publish k got) f o = tt
keeps-open c t chain stage (Broken reason head count at) f o = tt

-- on a read-only disk no step stores
pub locked : (ro : ℕ) (chain stage f : List ℕ) (p : Phase) → (ro ≡ 0 → ⊥) → Open ro p → disk_stores (effect chain stage p f) ≡ []
unfolding Open effect disk_stores
locked ro chain stage f Poll n o = refl
locked ro chain stage f Entry n o = refl
locked ro chain stage f (Chain k cur) n o = refl
locked ro chain stage f (Header k p got) n o = refl
locked ro chain stage f (Payload k p s got) n o = absurd (n o)
locked ro chain stage f (Answer k job got) n o = refl
locked ro chain stage f (Publish k got) n o = refl
locked ro chain stage f (Broken reason head count at) n o = refl
