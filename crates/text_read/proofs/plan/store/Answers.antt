-- `store` meets its contract: the ends from 0 on, and the excluded vertices directly behind them.
use mathlib.Core.Path.{◌≡◌, sym, ap, ◌∙◌}
use mathlib.Core.List.{List, ◌++◌}
use Prim.Native.Nat.{ℕ, ◌+◌, ◌*◌, ◌≤◌}
use native.Mathlib.Omega.{arith}
use lib.ListN.{length, drop, length-drop, length-append}
use lib.Seq.{sets, drop-drop}
use Rattle.text.specs.Column.{five, largest, line_size, behind_lines}
use Rattle.text.proofs.Laws.{sets_append, begin_long, fit_true}
use Rattle.text.proofs.Reading.{length-lines-numbers, sets_filled}
use Rattle.text_read.specs.Header.{ends_at, excluded_at}
use Rattle.text_read.proofs.plan.store.Goals as goal

pub store_lines-requires : goal.store_lines-requires
store_lines-requires c = let p = c.requires in (p.0.inside, omega arith, omega (arith, p.1), p.0.begin)

pub overflow_mul-edges : goal.overflow_mul-edges
overflow_mul-edges c =
    let txt : List ℕ = c.args.text.now in
    let room : let h = c.args.header in h.next + h.edges * line_size five 2 ≤ length txt = let h = c.args.header in omega (arith, begin_long five largest 2 h.edges (drop h.next txt) c.requires.0.begin, length-drop h.next txt, c.requires.0.inside) in
    omega (arith, room)

pub overflow_add-next : goal.overflow_add-next
overflow_add-next c =
    let txt : List ℕ = c.args.text.now in
    let room : let h = c.args.header in h.next + h.edges * line_size five 2 ≤ length txt = let h = c.args.header in omega (arith, begin_long five largest 2 h.edges (drop h.next txt) c.requires.0.begin, length-drop h.next txt, c.requires.0.inside) in
    omega (arith, room)

pub store_lines-requires-2 : goal.store_lines-requires-2
store_lines-requires-2 c =
    let txt : List ℕ = c.args.text.now in
    let room : let h = c.args.header in h.next + h.edges * line_size five 2 ≤ length txt = let h = c.args.header in omega (arith, begin_long five largest 2 h.edges (drop h.next txt) c.requires.0.begin, length-drop h.next txt, c.requires.0.inside) in
    let behind : let h = c.args.header in drop (h.next + h.edges * line_size five 2) txt ≡ behind_lines five 2 h.edges (drop h.next txt) = let h = c.args.header in sym (drop-drop (h.edges * line_size five 2) h.next txt) in
    let h = c.args.header in
    (room, omega arith, omega (arith, c.requires.1, c.store_lines.auto.list), rw behind (fit_true five largest 1 h.excluded (behind_lines five 2 h.edges (drop h.next txt)) c.requires.0.fit).0)

pub returns : goal.returns
returns c =
    let txt : List ℕ = c.args.text.now in
    let behind : let h = c.args.header in drop (h.next + h.edges * line_size five 2) txt ≡ behind_lines five 2 h.edges (drop h.next txt) = let h = c.args.header in sym (drop-drop (h.edges * line_size five 2) h.next txt) in
    let h = c.args.header in
    let t = c.args.table.now in
    let ends = ends_at five txt h.next h.edges in
    let excluded = excluded_at five txt h.next h.edges h.excluded in
    let m = length-lines-numbers five 2 h.edges (drop h.next txt) in
    let k = length-lines-numbers five 1 h.excluded (behind_lines five 2 h.edges (drop h.next txt)) in
    let at : 0 + length ends ≡ 2 * h.edges = omega (arith, m) in
    c.store_lines-2.ensures
    ∙ rw (c.store_lines.ensures, behind) (ap (λ (i : ℕ). sets (sets t 0 ends) i excluded) (sym at) ∙ sym (sets_append t 0 ends excluded))
    ∙ sets_filled t (ends ++ excluded) (omega (arith, m, k, length-append ends excluded, c.requires.1))
