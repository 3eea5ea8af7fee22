-- `store` meets its contract. The loop's invariant: what is left to be stored, from drawn tab e on, makes the whole.
use mathlib.Core.Path.{◌≡◌, sym, ap, ◌∙◌}
use mathlib.Core.Bool.{true}
use mathlib.Core.List.{List, [], ◌∷◌}
use Prim.Native.Nat.{ℕ, ◌+◌, ◌*◌, ◌-◌, ◌<◌}
use native.Mathlib.Omega.{arith}
use lib.ListN.{length, drop, length-drop}
use lib.Seq.{sets}
use Rattle.text.proofs.Laws.{and_true}
use Rattle.drawn.specs.Drawing.{Drawn, all_ends, wide_ones, wide_numbers}
use Rattle.drawn.specs.Text.{Form, form, header_size, edge_size, edge_fits, edge_in, edges_fit, edges_in}
use Rattle.drawn.specs.Line.{EdgeOf, drawn}
use Rattle.drawn.specs.declared.line.Edge.{Edge}
use Rattle.drawn.proofs.Edges.{fit_next, in_next, edges_long}
use Rattle.drawn.proofs.Lines.{fits_some}
use Rattle.drawn.proofs.Stores.{stored_next}
use Rattle.drawn.proofs.take.store.Goals as goal

-- of lines in the form, the next one is there, and so are those behind it
module _ (f : Form) (next left : ℕ) (text : List ℕ) (h : 0 < left) (p : edges_fit f left (drop next text) ≡ true) where
  both : (edge_fits f (drop next text) ≡ true) × (edges_fit f (left - 1) (drop (next + edge_size f) text) ≡ true)
  both = and_true (edge_fits f (drop next text)) (edges_fit f (left - 1) (drop (next + edge_size f) text)) (sym (fit_next f next left text h) ∙ p)

  drawn_is : {x : Edge} → EdgeOf f (drop next text) x → drawn x.left x.right x.gap ≡ edge_in f (drop next text)
  drawn_is r = rw (r.left, r.right, r.gap)

  listed : {x : Edge} → EdgeOf f (drop next text) x → edges_in f left (drop next text) ≡ drawn x.left x.right x.gap ∷ edges_in f (left - 1) (drop (next + edge_size f) text)
  listed r = in_next f next left text h ∙ ap (λ (d : Drawn). d ∷ edges_in f (left - 1) (drop (next + edge_size f) text)) (sym (drawn_is r))

pub read_edge-requires : goal.read_edge-requires
read_edge-requires c =
    let a = c.args in
    let e = c.loop-e.e in
    let next = header_size form + e * edge_size form in
    omega (arith, edges_long form (a.edges - e) (drop next a.text.now) c.loop-e.invariant.fits, length-drop next a.text.now)

pub unwrap-edge-requires : goal.unwrap-edge-requires
unwrap-edge-requires c =
    let a = c.args in
    let next = header_size form + c.loop-e.e * edge_size form in
    let h = both form next (a.edges - c.loop-e.e) a.text.now (omega arith) c.loop-e.invariant.fits in
    sym (fits_some form (drop next a.text.now) c.read_edge.result c.read_edge.ensures) ∙ h.0

pub loop-e-preserved : goal.loop-e-preserved
loop-e-preserved c =
    let a = c.args in
    let l = c.loop-e in
    let i = l.invariant in
    let left = a.edges - l.e in
    let next = header_size form + l.e * edge_size form in
    let s = stored_next c.put-count.ensures (edges_in form (left - 1) (drop (next + edge_size form) a.text.now)) in
    let fewer : a.edges - (l.e + 1) ≡ left - 1 = omega arith in
    let behind : header_size form + (l.e + 1) * edge_size form ≡ next + edge_size form = omega arith in
    let q = listed form next left a.text.now (omega arith) i.fits (rw c.unwrap-edge.ensures at c.read_edge.ensures) in
    record {
      few = omega (arith, s.most);
      fits = rw (fewer, behind) (both form next left a.text.now (omega arith) i.fits).1;
      many = rw (fewer, behind) (s.many ∙ ap (λ (d : List Drawn). l.count + length (wide_numbers a.least l.e d)) (sym q) ∙ i.many);
      ends_set = rw (fewer, behind) (s.ends_set ∙ ap (λ (d : List Drawn). sets l.ends (2 * l.count) (all_ends (wide_ones a.least d))) (sym q) ∙ i.ends_set);
      numbers_set = rw (fewer, behind) (s.numbers_set ∙ ap (λ (d : List Drawn). sets l.numbers l.count (wide_numbers a.least l.e d)) (sym q) ∙ i.numbers_set);
    }

pub returns : goal.returns
unfolding all_ends wide_ones wide_numbers edges_in
returns c =
    let a = c.args in
    let l = c.loop-e in
    let i = l.invariant in
    let p : a.edges - l.e ≡ 0 = omega arith in
    let none : edges_in form (a.edges - l.e) (drop (header_size form + l.e * edge_size form) a.text.now) ≡ [] = rw p in
    record {
      many = omega (arith, rw none at i.many);
      ends_set = rw none at i.ends_set;
      numbers-set = rw none at i.numbers_set;
    }
