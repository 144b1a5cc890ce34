-- The request (03): what set-up refuses of a disk, the table of 03 §3, status and length.
use Rattle.std.specs.Prelude.{ℕ, ◌+◌, ◌-◌, ◌*◌, ◌/◌, ◌%◌, ◌^◌, Bool, leb, ltb, eqb}
use Rattle.model.specs.Pick.{pick, both}
use Rattle.model.specs.declared.Disk.{Disk}
use Rattle.model.specs.declared.Walk.{Walk}
use Rattle.model.specs.declared.Place.{Place}
use Rattle.model.specs.declared.Job.{Job}
use Rattle.model.specs.declared.Job.TheVariants.{Failed, Unsupported, Done, Read, Write, Identity}
use Rattle.model.specs.declared.Phase.{Phase}
use Rattle.model.specs.declared.Phase.TheVariants.{Payload, Answer}

-- 03 §1: "1 <= c <= 2^32 .. refuses another capacity (29) and a range that leaves the backing slice (30)"
unfoldable pub disk_code : ℕ → ℕ → ℕ → ℕ
disk_code start sectors backing =
    pick (both (leb 1 sectors) (leb sectors (2 ^ 32))) (pick (leb (start + 512 * sectors) backing) 0 30) 29

-- "n fits if n is a multiple of 512, at most 1,048,576, sector <= c and n / 512 <= c - sector"
unfoldable pub fits : ℕ → ℕ → ℕ → Bool
fits n sector c = both (eqb (n % 512) 0) (both (leb n 1048576) (both (leb sector c) (leb (n / 512) (c - sector))))

-- 03 §3, the column "accepted if": IN, OUT, FLUSH, GET_ID
unfoldable pub in_ok : Disk → ℕ → ℕ → ℕ → Bool
in_ok d sector r w = both (eqb r 16) (fits (w - 1) sector d.sectors)

unfoldable pub out_ok : Disk → ℕ → ℕ → ℕ → Bool
out_ok d sector r w = both (eqb w 1) (both (fits (r - 16) sector d.sectors) (eqb d.ro 0))

-- FLUSH: r = 16, w = 1. GET_ID: r = 16, w = 21.
unfoldable pub exactly : ℕ → ℕ → ℕ → Job → Job
exactly r w n job = pick (both (eqb r 16) (eqb w n)) job Failed

-- the table: type and sector of the header, r and w
unfoldable pub verdict : Disk → ℕ → ℕ → ℕ → ℕ → Job
verdict d type sector r w =
    pick (ltb r 16) Failed
    (pick (eqb type 0) (pick (in_ok d sector r w) (Read sector) Failed)
    (pick (eqb type 1) (pick (out_ok d sector r w) (Write sector) Failed)
    (pick (eqb type 4) (exactly r w 1 Done)
    (pick (eqb type 8) (exactly r w 21 Identity) Unsupported))))

-- the column "status"
unfoldable pub status : Job → ℕ
status Failed = 1
status Unsupported = 2
status Done = 0
status (Read s) = 0
status (Write s) = 0
status Identity = 0

-- 03 §4: "after status 0: len = w; after status 1 or 2: len = 1 if w = 1, and 0 if w > 1"
unfoldable pub reported : ℕ → ℕ → ℕ
reported status w = pick (eqb status 0) w (pick (eqb w 1) 1 0)

-- S4, the header complete: "an accepted OUT with n > 0: S5 · else S6"
unfoldable pub decided : Walk → Place → Job → Phase
decided k p Failed = Answer k Failed 16
decided k p Unsupported = Answer k Unsupported 16
decided k p Done = Answer k Done 16
decided k p (Read s) = Answer k (Read s) 16
decided k p (Write s) = pick (ltb 16 k.r) (Payload k p s 0) (Answer k Done 16)
decided k p Identity = Answer k Identity 16
