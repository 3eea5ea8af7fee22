-- `write_admitted` meets its contract: the table of rows has room for every admitted plan, so it is weak or firm, and what is found of it is
-- written.
use Rattle.std.specs.Prelude.{Ok}
use borrow.Author.Rules.{rules}
use mathlib.Core.Path.{◌≡◌, sym, subst}
use Prim.Native.Nat.{ℕ, ◌*◌, ◌≤◌}
use native.Mathlib.Omega.{arith}
use lib.ListN.{length, take, replicate, length-take, length-replicate}
use Rattle.connectivity.specs.Plan.{Plan, plan, limits}
use Rattle.graph.proofs.Barring.{edges_few}
use Rattle.certify.specs.declared.Finding.TheVariants.{Firm, Weak}
use Rattle.certify.specs.Answered.{named}
use Rattle.certify_texts.specs.Says.{SaysOf}
use Rattle.certify_texts.proofs.Saying.{never_refused, says_weak, says_firm}
use Rattle.certify_texts.proofs.write_admitted.Goals as goal

-- how long the table is, and that it is enough
size : length {A = ℕ} (replicate (3 * limits.edges) 0) ≡ 3 * limits.edges
size = length-replicate {A = ℕ} (3 * limits.edges) 0

pub write_weak-requires : goal.write_weak-requires
write_weak-requires c =
    let drawn : Plan = plan c.args.vertices c.args.ends.now c.args.excluded.now in
    let is : c.verdict-found.result ≡ Ok (Weak c.in-Ok-Weak.cut c.in-Ok-Weak.field-0-1) = search rules in
    let said_weak : let cut = c.in-Ok-Weak.cut in (cut.count ≤ 2) × SaysOf limits drawn 1 (named cut) = says_weak c.requires.0 size c.verdict-found.ensures is in
    said_weak.0

pub slice_bounds-rows-end : goal.slice_bounds-rows-end
slice_bounds-rows-end c =
    let drawn : Plan = plan c.args.vertices c.args.ends.now c.args.excluded.now in
    let fits : 3 * c.args.kept ≤ 3 * limits.edges = omega (arith, c.requires.1, edges_few drawn, c.requires.0.edges) in
    omega (arith, fits)

pub slice_bounds-write_verdict-end : goal.slice_bounds-write_verdict-end
slice_bounds-write_verdict-end c =
    let drawn : Plan = plan c.args.vertices c.args.ends.now c.args.excluded.now in
    let fits : 3 * c.args.kept ≤ 3 * limits.edges = omega (arith, c.requires.1, edges_few drawn, c.requires.0.edges) in
    simp length-take (omega (arith, fits))

pub returns-in-Err : goal.returns-in-Err
returns-in-Err c = never_refused c.requires.0 size c.verdict-found.ensures c.in-Err.is

pub returns-in-Ok-Weak : goal.returns-in-Ok-Weak
returns-in-Ok-Weak c =
    let drawn : Plan = plan c.args.vertices c.args.ends.now c.args.excluded.now in
    let is : c.verdict-found.result ≡ Ok (Weak c.in-Ok-Weak.cut c.in-Ok-Weak.field-0-1) = search rules in
    let said_weak : let cut = c.in-Ok-Weak.cut in (cut.count ≤ 2) × SaysOf limits drawn 1 (named cut) = says_weak c.requires.0 size c.verdict-found.ensures is in
    record { kind = 1; list = _; says = said_weak.1; written = c.write_weak.ensures }

pub returns-in-Ok-Firm : goal.returns-in-Ok-Firm
returns-in-Ok-Firm c =
    let drawn : Plan = plan c.args.vertices c.args.ends.now c.args.excluded.now in
    let is : c.verdict-found.result ≡ Ok Firm = search rules in
    let said_firm : SaysOf limits drawn 0 (take (3 * c.args.kept) c.verdict-found.new.rows) = subst (λ (n : ℕ). SaysOf limits drawn 0 (take (3 * n) c.verdict-found.new.rows)) (sym c.requires.1) (says_firm c.requires.0 size c.verdict-found.ensures is) in
    record { kind = 0; list = _; says = said_firm; written = c.write_verdict.ensures }
