-- A row that fits is taken up: the marks then hold of the longer walk.
use mathlib.Core.Path.{◌≡◌, refl, sym, ap, subst, ◌∙◌}
use mathlib.Core.Logic.{◌⊎◌, inl, inr}
use mathlib.Core.Bool.{Bool, true, false}
use mathlib.Core.List.Memᴰ
use mathlib.Core.List.Memᴰ.{not-nil as not_in}
use mathlib.Core.List.{List, [], ◌∷◌, ◌++◌, Memᴰ as In}
use Prim.Native.Nat.{ℕ, suc, ◌+◌, ◌-◌, ◌≤◌, ◌<◌}
use native.Mathlib.Omega.{arith}
use native.Mathlib.Decide.{ℕ_discrete, dec_lt}
use lib.ListN.{length, get_or, set, length-set}
use lib.Seq.{get_or-set_same, get_or-set_other}
use Rattle.connectivity.specs.Lists.{no_member, one}
use Rattle.connectivity.specs.Plan.{Limits}
use Rattle.connectivity.specs.Graph.{Graph, Joins}
use Rattle.connectivity.specs.Walk.{Leg, Walk, last, froms, all_edges, Built, far}
use Rattle.connectivity.specs.Judge.{leg_of}
use Rattle.connectivity.proofs.Lists.{true-T}
use Rattle.connectivity.proofs.Reach.{joins_vertex}
use Rattle.connectivity.proofs.Degree.{from_first, froms_cases, in_degree, hits_from}
use Rattle.connectivity.proofs.Legs.{joins_far, walk_snoc}
use Rattle.connectivity.proofs.Run.{RowFits, comes_to_lem, more_distinct}
use Rattle.connectivity.proofs.Fresh.{Fresh, fresh_snoc}
use Rattle.connectivity.proofs.Stretch.{place_vertex, place_edge, edges_of_lem}
use Rattle.verify_firm.specs.declared.state.Run.{Run}
use Rattle.graph.specs.Tells.{Tells}
use Rattle.verify_firm.specs.Marks.{step_at, edge_at, from_at, row_at, Lies, Laid, GoesOn, Left, Lefts, Holds, StaysFresh, WentOn, begun, on}
use Rattle.verify_firm.specs.Marks as marks
use Rattle.verify_firm.proofs.Rows.{Placed, lies_le, lies_snoc, row_place, laid_step, home, inner-row}

-- a test that tells a fact, and the fact
pub told : {P : Type 0} (b : Bool) → Tells b P → P → b ≡ true
told true t p = refl
told false t p = absurd (t p)

pub tells : {P : Type 0} (b : Bool) → Tells b P → b ≡ true → P
tells true t e = t
tells false t e = absurd (true-T e)

pub fresh_none : (g : Graph) (built : List ℕ) → Fresh g built []
fresh_none g built = record { once = no_member; new = λ v i. absurd (not_in i) }

pub lies_nil : {list : List ℕ} {s n m : ℕ} {legs : List Leg} → Lies list s n legs m → n ≡ m → legs ≡ []
lies_nil marks.no_row p = refl
lies_nil (marks.one q l) p = absurd (omega (arith, lies_le l))

below_suc : {P : ℕ → Type 0} (n : ℕ) → ((k : ℕ) → k < n → P k) → P n → (k : ℕ) → k < suc n → P k
below_suc {P} n old new k h = elim (ℕ_discrete k n) [ yes e ↦ subst P (sym e) new | no d ↦ old k (omega (arith, h, d)) ]

module _ {most : Limits} {g : Graph} {list : List ℕ} {done : List (List Leg)} {walk : List Leg} {row : ℕ} {degrees left : List ℕ} {steps : ℕ} {run : Run} {low high : ℕ}
    (h : Holds most g list done walk row degrees left steps run low high) where
  -- the vertex of a row before the step is built
  pub row_built : (i : ℕ) → i < run.first → Built g (all_edges done) (from_at list i)
  row_built i b =
      let r = home i h.laid b in
      let p = r.all i b refl in
      let q = row_place i r.lies p.0 p.1 in
      in_degree g (from_at list i) (edges_of_lem done r.member (edge_at list i) (place_edge q.here)) (hits_from (h.rows i (omega (arith, b, lies_le h.lies))))

module _ {most : Limits} {g : Graph} {list : List ℕ} {done : List (List Leg)} {walk : List Leg} {row : ℕ} {degrees left : List ℕ} {steps : ℕ} {run : Run} {low high : ℕ}
    (h : Holds most g list done walk row degrees left steps run low high) (bound : g.bound ≤ most.vertices) (f : RowFits g done walk (row_at list row)) where
  abbrev v : ℕ
  v = from_at list row

  abbrev e : ℕ
  e = edge_at list row

  abbrev longer : List Leg
  longer = walk ++ (leg_of (row_at list row) ∷ [])

  joins : Joins g e v (far g e v)
  joins = joins_far f.edge f.end

  rows : (k : ℕ) → k < suc row → Joins g (edge_at list k) (from_at list k) (far g (edge_at list k) (from_at list k))
  rows = below_suc {P = λ k. Joins g (edge_at list k) (from_at list k) (far g (edge_at list k) (from_at list k))} row h.rows joins

  -- the first row of a step
  pub first_row : run.first ≡ row → Holds most g list done longer (suc row) degrees left steps (record { first = row; start = v; at = far g e v; fresh = true }) low high
  first_row p = record {
    marks_length = h.marks_length;
    left_length = h.left_length;
    degrees = h.degrees;
    few = λ x. rw (← p) (h.few x);
    steps_done = h.steps_done;
    laid = laid;
    lies = lies_snoc (subst (λ (n : ℕ). Lies list (length done) n walk row) p h.lies) f.step;
    once = more_distinct f h.once;
    walks = λ b. rw nil (last e joins);
    fresh = rw nil (record { once = one not_in no_member; new = λ x i. absurd (not_in i) });
    lefts = λ t. record {
      mark = λ k b q. elim (dec_lt (suc k) row) [
        | yes c ↦ before.mark k c q
        | no c ↦
            let p : suc k ≡ row = omega (arith, b, c) in
            absurd (omega (arith, laid_step k laid (omega (arith, b)), f.step, q, ap (step_at list) p))
      ];
      found = λ x. elim (before.found x) [ inl z ↦ inl z | inr l ↦ inr (record { before = l.before; taken = omega (arith, l.taken); on = l.on; from = l.from; marked = l.marked }) ];
    };
    stands = h.stands;
    rows = rows;
  }
    where
      nil : walk ≡ []
      nil = lies_nil h.lies p

      laid : Laid list done row
      laid = subst (Laid list done) p h.laid

      before : Lefts list row left
      before = h.lefts (told run.fresh h.fresh (rw nil (fresh_none g (all_edges done))))

  -- a row that goes on
  module _ (n : run.first ≡ row → ⊥) where
    runs : run.first < row
    runs = omega (arith, lies_le h.lies, n)

    walked : Walk g run.start walk v
    walked = let w = h.walks runs in subst (Walk g run.start walk) (comes_to_lem w f.comes) w

    vertex : v < most.vertices
    vertex = omega (arith, bound, (joins_vertex joins).below)

    -- a link mark tells a vertex that is built or that the walk has left
    marked_left : Left list row v (get_or left v 0) → (Built g (all_edges done) v → ⊥) → In v (froms walk)
    marked_left l m = elim (dec_lt (suc l.before) run.first) [
      | yes b ↦ absurd (m (subst (Built g (all_edges done)) l.from (row_built h (suc l.before) b)))
      | no b ↦ let r = row_place (suc l.before) h.lies (omega (arith, b)) l.taken in Memᴰ.cast (sym l.from) (place_vertex r.here)
    ]

    new_inner : get_or left v 0 ≡ 0 → (v ≡ run.start → ⊥) → Lefts list row left → In v (froms walk) → ⊥
    new_inner z s l i = elim (froms_cases walked i) [
      | inl p ↦ s p
      | inr j ↦ let r = inner-row h.lies j in omega (arith, l.mark r.before r.below r.on, ap (λ (x : ℕ). get_or left x 0) r.is)
    ]

    fresh_told : (fresh : Bool) → Tells fresh (StaysFresh run v (get_or degrees v 0) (get_or left v 0)) → Tells fresh (Fresh g (all_edges done) longer)
    fresh_told true (a, b, c, d) = (fresh_snoc e walked).1 (
      tells run.fresh h.fresh a,
      new_inner c d (h.lefts a),
      λ k. omega (arith, b, h.degrees v vertex),
    )
    fresh_told false t = λ k.
        let p = (fresh_snoc e walked).0 k in
        let q = told run.fresh h.fresh p.0 in
        let m = p.2 in
        t (
          q,
          omega (arith, m, h.degrees v vertex),
          elim ((h.lefts q).found v) [ inl z ↦ z | inr l ↦ absurd (p.1 (marked_left l m)) ],
          λ s. p.1 (Memᴰ.cast s (from_first walked)),
        )

    stay_left : Lefts list row left → get_or left v 0 ≡ 0 → Lefts list (suc row) (set left v (row + 1))
    stay_left l z = record { mark = mark; found = found }
      where
        before : Placed list (length done) walk run.first (row - 1)
        before = row_place (row - 1) h.lies (omega (arith, runs)) (omega (arith, runs))

        same : suc (row - 1) ≡ row
        same = omega (arith, runs)

        mark : (k : ℕ) → suc k < suc row → GoesOn list k → get_or (set left v (row + 1)) (from_at list (suc k)) 0 ≡ suc (suc k)
        mark k b q = elim (dec_lt (suc k) row) [
          | yes c ↦ get_or-set_other left v (from_at list (suc k)) (row + 1) 0 (λ s. omega (arith, z, l.mark k c q, ap (λ (x : ℕ). get_or left x 0) s)) ∙ l.mark k c q
          | no c ↦ let p : suc k ≡ row = omega (arith, b, c) in
              ap (λ (x : ℕ). get_or (set left v (row + 1)) (from_at list x) 0) p ∙ get_or-set_same left v (row + 1) 0 (omega (arith, vertex, h.left_length)) ∙ omega (arith, p)
        ]

        found : (x : ℕ) → (get_or (set left v (row + 1)) x 0 ≡ 0) ⊎ Left list (suc row) x (get_or (set left v (row + 1)) x 0)
        found x = elim (ℕ_discrete x v) [
          | yes p ↦ inr (record {
            before = row - 1;
            taken = omega (arith, runs);
            on = before.step ∙ sym f.step ∙ ap (step_at list) (sym same);
            from = ap (from_at list) same ∙ sym p;
            marked = ap (λ (y : ℕ). get_or (set left v (row + 1)) y 0) p ∙ get_or-set_same left v (row + 1) 0 (omega (arith, vertex, h.left_length)) ∙ omega (arith, runs);
          })
          | no p ↦ rw (get_or-set_other left v x (row + 1) 0 p) (elim (l.found x) [
            | inl y ↦ inl y
            | inr y ↦ inr (record { before = y.before; taken = omega (arith, y.taken); on = y.on; from = y.from; marked = y.marked })
          ])
        ]

    next_row : (fresh : Bool) → Tells fresh (StaysFresh run v (get_or degrees v 0) (get_or left v 0))
        → Holds most g list done longer (suc row) degrees (set left v (row + 1)) steps (record { first = run.first; start = run.start; at = far g e v; fresh = fresh }) low high
    next_row fresh t = record {
      marks_length = h.marks_length;
      left_length = length-set left v (row + 1) ∙ h.left_length;
      degrees = h.degrees;
      few = h.few;
      steps_done = h.steps_done;
      laid = h.laid;
      lies = lies_snoc h.lies f.step;
      once = more_distinct f h.once;
      walks = λ b. walk_snoc walked joins;
      fresh = fresh_told fresh t;
      lefts = λ p. let q = tells fresh t p in stay_left (h.lefts q.0) q.2;
      stands = h.stands;
      rows = rows;
    }

  -- however it goes
  pub went_on : {after : List ℕ} {to built : ℕ} {next : Run} → to ≡ far g e v → built ≡ get_or degrees v 0 → WentOn left run row v to built after next
      → Holds most g list done longer (suc row) degrees after steps next low high
  went_on p q (begun z) = rw p (first_row z)
  went_on p q (on n fresh t) = rw p (next_row n fresh (subst (λ (b : ℕ). Tells fresh (StaysFresh run v b (get_or left v 0))) q t))
