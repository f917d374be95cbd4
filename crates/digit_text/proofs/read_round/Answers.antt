use mathlib.Core.Bool.{Bool, true, false, cond}
use mathlib.Core.Path.{◌≡◌, refl}
use mir.Val.{bool_byte}
use Rattle.digit_text.specs.Reading.{read_round}
use Rattle.digit_text.proofs.Scan.{lowest_plus}
use Rattle.digit_text.proofs.read_round.Goals as goal

bit : (b : Bool) → bool_byte b ≡ cond b 1 0
bit true = refl
bit false = refl

pub returns : goal.returns
unfolding read_round
returns c = rw (c.from.ensures, c.eq.ensures, c.lowest_sign.ensures, lowest_plus c.args.text.now) (bit _)
