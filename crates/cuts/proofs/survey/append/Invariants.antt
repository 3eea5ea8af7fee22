-- `append` meets its contract. The loop's invariant: the first i of them stand where they should.
use Rattle.cuts.proofs.Surveying.{Added}
use Rattle.cuts.proofs.survey.append.Given as goal

abbrev pub invariant-loop-i : goal.invariant-loop-i
invariant-loop-i l = Added l.excluded l.count l.initial.first l.initial.order l.first l.order l.i
