-- The marks while the edges of rows come to count as built: one edge, and the rows in turn.
use mathlib.Core.Path.{◌≡◌, refl, ap, subst}
use mathlib.Core.Bool.{Bool, true, false, cond, ◌||◌}
use mathlib.Core.List.{List, [], ◌∷◌}
use Prim.Native.Nat.{ℕ, suc, ◌+◌, ◌*◌, ◌≤◌, ◌<◌}
use native.Mathlib.Omega.{arith}
use lib.Dec.{eqb}
use lib.ListN.{length, get_or, set, length-set}
use borrow.Author.Tests.{eqb-true}
use Rattle.connectivity.specs.Plan.{plan, graph, Limits}
use Rattle.connectivity.specs.Graph.{Graph}
use Rattle.connectivity.specs.Walk.{Leg, edges_of, hits, degree}
use Rattle.connectivity.specs.Judge.{leg_of}
use Rattle.connectivity.proofs.Lists.{raised}
use Rattle.verify_firm.specs.Marks.{edge_at, row_at, Lies, no_row, one, EdgeReady, EdgeAdded, RowsReady, RowsAdded}

one_most : (t : Bool) → cond t 1 0 ≤ 1
one_most true = omega arith
one_most false = omega arith

not_both : (a b : Bool) → (a ≡ true → b ≡ true → ⊥) → cond b 1 0 + cond a 1 0 ≡ cond (a || b) 1 0
not_both true true n = absurd (n refl refl)
not_both true false n = refl
not_both false true n = refl
not_both false false n = refl

-- one edge
module _ (marks ends : List ℕ) (e : ℕ) where
  abbrev l : ℕ
  l = get_or ends (2 * e) 0

  abbrev r : ℕ
  r = get_or ends (2 * e + 1) 0

  abbrev half : List ℕ
  half = set marks l (get_or marks l 0 + 1)

  pub half_few : {most : Limits} → EdgeReady most marks ends e → get_or half r 0 ≤ most.edges + 1
  half_few a = omega (arith, raised marks l 1 r a.left, one_most (eqb l r), a.few r)

  pub edge_added : {most : Limits} → EdgeReady most marks ends e → EdgeAdded marks (set half r (get_or half r 0 + 1)) ends e
  edge_added a =
      let long : length half ≡ length marks = length-set marks l (get_or marks l 0 + 1) in
      record {
        length-same = simp length-set refl;
        more = λ v. omega (
          arith,
          raised half r 1 v (omega (arith, long, a.right)),
          raised marks l 1 v a.left,
          not_both (eqb l v) (eqb r v) (λ p q. a.different (omega (arith, eqb-true l v p, eqb-true r v q))),
        );
      }

-- an edge hits its ends
hit : (n : ℕ) (ends excluded : List ℕ) (e v : ℕ) → hits (graph (plan n ends excluded)) e v ≡ cond (eqb (get_or ends (2 * e) 0) v || eqb (get_or ends (2 * e + 1) 0) v) 1 0
unfolding hits graph
hit n ends excluded e v = refl

-- rows that lie from one place to another: the first of them, and none
lies_most : {list : List ℕ} {s n m : ℕ} {legs : List Leg} → Lies list s n legs m → n ≤ m
lies_most no_row = omega arith
lies_most (one p l) = omega (arith, lies_most l)

record Split (list : List ℕ) (s n : ℕ) (legs : List Leg) (m : ℕ) : Type 0 where
  pub rest : List Leg
  pub same : legs ≡ leg_of (row_at list n) ∷ rest
  pub lies : Lies list s (suc n) rest m

split : {list : List ℕ} {s n m : ℕ} {legs : List Leg} → Lies list s n legs m → n < m → Split list s n legs m
split no_row h = absurd (omega (arith, h))
split (one {legs = legs} p l) h = record { rest = legs; same = refl; lies = l }

over : {list : List ℕ} {s n m : ℕ} {legs : List Leg} → Lies list s n legs m → n ≡ m → legs ≡ []
over no_row p = refl
over (one q l) p = absurd (omega (arith, p, lies_most l))

-- of the step's rows those below k have been counted
pub record Counted (g : Graph) (list : List ℕ) (s k end : ℕ) (legs : List Leg) (marks now : List ℕ) : Type 0 where
  pub rest : List Leg
  pub lies : Lies list s k rest end
  pub sum : (v : ℕ) → get_or now v 0 + degree g (edges_of rest) v ≡ degree g (edges_of legs) v + get_or marks v 0

pub record Adding (marks ends list : List ℕ) (first end : ℕ) (now : List ℕ) (k : ℕ) : Type 0 where
  pub below : k ≤ end
  pub length-same : length now ≡ length marks
  pub few : (v : ℕ) → get_or now v 0 ≤ k
  pub more : (n : ℕ) (excluded : List ℕ) (s : ℕ) (legs : List Leg) → Lies list s first legs end → Counted (graph (plan n ends excluded)) list s k end legs marks now

module _ {marks ends list : List ℕ} {first end : ℕ} where
  pub adding_start : {most : Limits} → RowsReady most marks ends list first end → Adding marks ends list first end marks first
  adding_start r = record {
    below = r.order;
    length-same = refl;
    few = r.few;
    more = λ n excluded s legs l. record { rest = legs; lies = l; sum = λ v. omega arith };
  }

  module _ {now : List ℕ} {k : ℕ} (a : Adding marks ends list first end now k) where
    pub adding_ready : {most : Limits} → RowsReady most marks ends list first end → k < end → EdgeReady most now ends (edge_at list k)
    adding_ready r h =
        let fit = r.fit (edge_at list k) (r.edges k h) in
        record {
          long = omega (arith, a.length-same, r.long);
          edge = r.edges k h;
          left = omega (arith, a.length-same, fit.left);
          right = omega (arith, a.length-same, fit.right);
          different = fit.different;
          few = λ v. omega (arith, a.few v, a.below, r.within);
        }

    pub adding_step : {after : List ℕ} → k < end → EdgeAdded now after ends (edge_at list k) → Adding marks ends list first end after (k + 1)
    adding_step {after} h e = record {
      below = omega (arith, h);
      length-same = omega (arith, e.length-same, a.length-same);
      few = λ v. omega (arith, e.more v, a.few v, one_most (eqb (get_or ends (2 * edge_at list k) 0) v || eqb (get_or ends (2 * edge_at list k + 1) 0) v));
      more = λ n excluded s legs l. next n excluded s legs (a.more n excluded s legs l);
    }
      where
        next : (n : ℕ) (excluded : List ℕ) (s : ℕ) (legs : List Leg) → Counted (graph (plan n ends excluded)) list s k end legs marks now
            → Counted (graph (plan n ends excluded)) list s (k + 1) end legs marks after
        next n excluded s legs c =
            let g : Graph = graph (plan n ends excluded) in
            let t : Split list s k c.rest end = split c.lies h in
            let p : suc k ≡ k + 1 = omega arith in
            record {
              rest = t.rest;
              lies = subst (λ (j : ℕ). Lies list s j t.rest end) p t.lies;
              sum = λ v. omega (
                arith,
                c.sum v,
                e.more v,
                hit n ends excluded (edge_at list k) v,
                ap (λ (x : List Leg). degree g (edges_of x) v) t.same,
              );
            }

    pub adding_end : end ≤ k → RowsAdded marks now ends list first end
    adding_end h = record {
      length-same = a.length-same;
      few = λ v. omega (arith, a.few v, a.below);
      more = λ n excluded s legs l v.
          let c : Counted (graph (plan n ends excluded)) list s k end legs marks now = a.more n excluded s legs l in
          omega (arith, c.sum v, ap (λ (x : List Leg). degree (graph (plan n ends excluded)) (edges_of x) v) (over c.lies (omega (arith, a.below, h))));
    }
