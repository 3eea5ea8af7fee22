-- `write_record` meets its contract: a plan that the constructor refuses is refused by its answer; any other has its counts.
use Rattle.std.specs.Prelude.{◌≡◌, Err}
use borrow.Author.Rules.{rules}
use Rattle.graph.proofs.Lent.{constructed-refused, constructed_admitted}
use Rattle.record.proofs.Answering.{answers_refused}
use Rattle.record.proofs.write_record.Goals as goal

pub write_admitted-requires : goal.write_admitted-requires
write_admitted-requires c =
    let m = constructed_admitted _ _ c.new.ensures c.in_ok-graph.was in
    record { admitted = m.admitted; all = m.kept_edges_lem }

pub returns-in_err-graph : goal.returns-in_err-graph
returns-in_err-graph c =
    let same : c.from_residual.result ≡ Err c.in_err-graph.field-0.0 = search rules in
    rw same (answers_refused _ _ (constructed-refused _ _ c.new.ensures c.in_err-graph.was))
