-- `write_admitted` meets its contract: the table has room for every admitted plan, so the groups are found, and the front of the list has each
-- vertex with its group.
use mathlib.Core.Path.{subst}
use mathlib.Core.List.{List}
use Prim.Native.Nat.{ℕ, ◌*◌, ◌≤◌}
use native.Mathlib.Omega.{arith}
use lib.ListN.{length, replicate, length-take, length-replicate}
use Rattle.connectivity.specs.Plan.{limits}
use Rattle.text.specs.Column.{five}
use Rattle.text_write.specs.Entry.{WritesLines}
use Rattle.components_texts.proofs.Listing.{paired_fits, paired_front}
use Rattle.components_texts.proofs.Answering.{found}
use Rattle.components_texts.proofs.write_admitted.Goals as goal

pub slice_bounds-list-end : goal.slice_bounds-list-end
slice_bounds-list-end c =
    let room : 2 * c.args.vertices ≤ length {A = ℕ} (replicate (2 * limits.vertices) 0) = omega (arith, c.requires.vertices, length-replicate {A = ℕ} (2 * limits.vertices) 0) in
    let fits : c.pair-size.result ≤ length c.pair-size.new.list = paired_fits c.requires c.pair-size.ensures room in
    omega (arith, fits)

pub slice_bounds-write_lines-end : goal.slice_bounds-write_lines-end
slice_bounds-write_lines-end c =
    let room : 2 * c.args.vertices ≤ length {A = ℕ} (replicate (2 * limits.vertices) 0) = omega (arith, c.requires.vertices, length-replicate {A = ℕ} (2 * limits.vertices) 0) in
    let fits : c.pair-size.result ≤ length c.pair-size.new.list = paired_fits c.requires c.pair-size.ensures room in
    simp length-take (omega (arith, fits))

pub returns : goal.returns
returns c =
    let room : 2 * c.args.vertices ≤ length {A = ℕ} (replicate (2 * limits.vertices) 0) = omega (arith, c.requires.vertices, length-replicate {A = ℕ} (2 * limits.vertices) 0) in
    let groups = found c.requires (omega (arith, c.requires.vertices, length-replicate {A = ℕ} limits.vertices 0)) c.find.ensures in
    let front = paired_front c.requires c.pair-size.ensures room _ groups in
    subst (λ (l : List ℕ). WritesLines five 2 l c.args.bytes.now c.write_lines.new.text c.write_lines.result) front c.write_lines.ensures
