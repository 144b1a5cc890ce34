use mathlib.Core.Path.{refl}
use Rattle.std.proofs.lemmas.Result.{err_from_is_err_and}
use Rattle.trip.proofs.Whole.{and-honest}
use Rattle.trip.proofs.Round.{write-failed, read-failed, read_done}
use Rattle.trip.proofs.round_trip.round_trip.Goals as goal

pub returns-in_err-first : goal.returns-in_err-first
returns-in_err-first c =
    let r = err_from_is_err_and c.from_residual.result c.from_residual.ensures.1 in
    let h = and-honest _ _ _ _ _ _ _ _ _ _ _ _ _ _ _ _ _ _ _ _ _ (write-failed _ _ _ _ _ _ _ _ _ _ _ _ _ _ _ _ _ _ _ _ _ _ _ _ _ c.in_err-first.ensures refl) c.ranges.sector.fits (λ i. (c.slice_known-2-1.given i).fits) (λ i. (c.slice_known-3-1.given i).fits) (λ i. (c.slice_known-5-1.given i).fits) (λ i. (c.slice_known-7-1.given i).fits) (λ i. (c.slice_known-8-1.given i).fits) in
    rw (r.1, r.2) (record { value = h.0; out_after = h.1.0; read_back = h.1.1 })

pub returns-in_err-second : goal.returns-in_err-second
returns-in_err-second c =
    let r = err_from_is_err_and c.from_residual-in_err-second.result c.from_residual-in_err-second.ensures.1 in
    let h = and-honest _ _ _ _ _ _ _ _ _ _ _ _ _ _ _ _ _ _ _ _ _ (read-failed _ _ _ _ _ _ _ _ _ _ _ _ _ _ _ _ _ _ _ _ _ _ _ _ _ _ _ _ _ _ _ _ _ _ _ _ c.in_ok-first.ensures refl c.in_err-second.ensures refl) c.ranges.sector.fits (λ i. (c.slice_known-2-1.given i).fits) (λ i. (c.slice_known-3-1.given i).fits) (λ i. (c.slice_known-5-1.given i).fits) (λ i. (c.slice_known-7-1.given i).fits) (λ i. (c.slice_known-8-1.given i).fits) in
    rw (r.1, r.2) (record { value = h.0; out_after = h.1.0; read_back = h.1.1 })

pub returns : goal.returns
returns c =
    let h = and-honest _ _ _ _ _ _ _ _ _ _ _ _ _ _ _ _ _ _ _ _ _ (read_done _ _ _ _ _ _ _ _ _ _ _ _ _ _ _ _ _ _ _ _ _ _ _ _ _ _ _ _ _ _ _ _ _ _ _ _ c.in_ok-first.ensures refl c.in_ok-second.ensures refl c.read.ensures.out_after) c.ranges.sector.fits (λ i. (c.slice_known-2-1.given i).fits) (λ i. (c.slice_known-3-1.given i).fits) (λ i. (c.slice_known-5-1.given i).fits) (λ i. (c.slice_known-7-1.given i).fits) (λ i. (c.slice_known-8-1.given i).fits) in
    record { value = h.0; out_after = h.1.0; read_back = h.1.1 }
