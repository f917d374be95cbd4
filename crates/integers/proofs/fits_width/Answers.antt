use mir.Facts.{to_z-of_z}
use Rattle.integers.proofs.Machine.{fits_machine_test}
use Rattle.integers.proofs.fits_width.Goals as goal

pub returns : goal.returns
returns c =
    let a = c.args in
    rw (c.floor_by-y.ensures, c.from.ensures, c.saturating_sub.ensures, to_z-of_z c.ranges.x) (fits_machine_test a.x a.n c.ranges.x)
