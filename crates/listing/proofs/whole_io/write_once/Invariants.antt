-- An interrupted write stores nothing.
use Rattle.std.specs.Io.KnownBytes.{Keeps}
use Rattle.listing.proofs.whole_io.write_once.Given as goal

abbrev pub invariant-loop : goal.invariant-loop
invariant-loop g l = Keeps (g.W.Write.contents l.initial.writer) (g.W.Write.contents l.writer)
