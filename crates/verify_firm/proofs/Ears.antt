-- 14 and 15 at the end of a later step: what the marks tell is that it is an ear, and whether its ends lie inside one link.
use mathlib.Core.Path.{◌≡◌, refl, sym, ap, subst, ◌∙◌}
use mathlib.Core.Logic.{◌⊎◌, inl, inr, ◌↔◌}
use mathlib.Core.List.Memᴰ.{head as first}
use mathlib.Core.List.Memᴰ.{tail as later}
use mathlib.Core.List.{List, [], ◌∷◌, Memᴰ as In}
use Prim.Native.Nat.{ℕ, suc, ◌+◌, ◌*◌, ◌-◌, ◌≤◌, ◌<◌}
use native.Mathlib.Omega.{arith}
use native.Mathlib.Decide.{dec_le}
use lib.ListN.{length, get_or}
use Rattle.connectivity.specs.Lists.{Distinct}
use Rattle.connectivity.specs.Plan.{Limits}
use Rattle.connectivity.specs.Graph.{Graph}
use Rattle.connectivity.specs.Reach.{Reach}
use Rattle.connectivity.specs.Walk.{Leg, Walk, inner, edges_of, all_edges, degree, Built, Branch}
use Rattle.connectivity.specs.Mader.{Steps}
use Rattle.connectivity.specs.Judge.{ear_fits, links_fit}
use Rattle.connectivity.proofs.Lists.{Decides, decides_to}
use Rattle.connectivity.proofs.Reach.{joins_vertex}
use Rattle.connectivity.proofs.Distinct.{right_distinct}
use Rattle.connectivity.proofs.Degree.{degree-append, on_inner, walk_from, walk_to}
use Rattle.connectivity.proofs.Stage.{Bare}
use Rattle.connectivity.proofs.Legs.{walk_start, walk_stop}
use Rattle.connectivity.proofs.Fit.{EarFits, ear_fits_lem, links_fit_lem}
use Rattle.connectivity.proofs.Fresh.{ear_fresh}
use Rattle.connectivity.proofs.Stretch.{WalkIn, walk_in, Place, Within, Clear, stays, stretch}
use Rattle.verify_firm.specs.declared.state.Run.{Run}
use Rattle.verify_firm.specs.Marks.{step_at, edge_at, from_at, Lefts, Holds, FitsEar, Joined, FitsLinks, RowsFit, Reads}
use Rattle.verify_firm.proofs.Rows.{Home, Placed, place_row, row_place, home, span, inner-row}
use Rattle.verify_firm.proofs.Going.{told, tells}

-- a built vertex that is no branch lies inside one of the steps
record Inside (done : List (List Leg)) (v : ℕ) : Type 0 where
  legs : List Leg
  member : In legs done
  inside : In v (inner legs)

built_inside : {g : Graph} {done : List (List Leg)} (v : ℕ) → Steps g done → Distinct (all_edges done) → Built g (all_edges done) v
    → (Branch g (all_edges done) v → ⊥) → Inside done v
built_inside {g} {done} v p d b n = look done (λ legs i. i) b
  where
    look : (part : List (List Leg)) → ((legs : List Leg) → In legs part → In legs done) → Built g (all_edges part) v → Inside done v
    look [] sub h = absurd (omega (arith, h))
    look (legs ∷ part) sub h = elim (dec_le 1 (degree g (edges_of legs) v)) [
      | yes q ↦
          let w = walk_in p d (sub legs (first refl)) in
          record {
            legs = legs;
            member = sub legs (first refl);
            inside = on_inner v w.walk (λ e. n (rw e w.branch_from)) (λ e. n (rw e w.branch_to)) q;
          }
      | no q ↦ look part (λ k i. sub k (later i)) (omega (arith, h, q, degree-append g (edges_of legs) (all_edges part) v))
    ]

-- places and rows are counted from different ends
shift : (base : ℕ) {i j k : ℕ} (x y z : ℕ) → i ≡ base + x → j ≡ base + y → k ≡ base + z → Within i j k ↔ Within x y z
shift base x y z a b c = (
  (λ l. elim l [ inl t ↦ inl (omega (arith, a, c, t.0), omega (arith, b, c, t.1)) | inr t ↦ inr (omega (arith, b, c, t.0), omega (arith, a, c, t.1)) ]),
  (λ l. elim l [ inl t ↦ inl (omega (arith, a, c, t.0), omega (arith, b, c, t.1)) | inr t ↦ inr (omega (arith, b, c, t.0), omega (arith, a, c, t.1)) ]),
)

module _ {most : Limits} {g : Graph} {list : List ℕ} {done : List (List Leg)} {walk : List Leg} {row : ℕ} {degrees left : List ℕ} {steps : ℕ} {run : Run} {low high : ℕ}
    (h : Holds most g list done walk row degrees left steps run low high) (bound : g.bound ≤ most.vertices) (b : run.first < row) (many : 3 ≤ length done) where
  abbrev built : List ℕ
  built = all_edges done

  walked : Walk g run.start walk run.at
  walked = h.walks b

  distinct : Distinct built
  distinct = right_distinct (edges_of walk) h.once

  mader : Steps g done
  mader = h.stands.steps many

  pub start_below : run.start < most.vertices
  start_below = omega (arith, bound, (walk_from walked).below)

  pub at_below : run.at < most.vertices
  at_below = omega (arith, bound, (walk_to walked).below)

  vertex_below : (k : ℕ) → k < row → from_at list k < most.vertices
  vertex_below k c = omega (arith, bound, (joins_vertex (h.rows k c)).below)

  -- 14
  pub ear_is : Decides (ear_fits g built walk) (FitsEar degrees run)
  ear_is = decides_to (ear_fits_lem g built walk) there back
    where
      there : EarFits g built walk → FitsEar degrees run
      there f =
          let u : Built g built run.start = subst (Built g built) (walk_start walked) f.begins in
          let w : Built g built run.at = subst (Built g built) (walk_stop walked) f.ends in (
            told run.fresh h.fresh ((ear_fresh walked u).0 (f.simple, f.fresh)),
            omega (arith, u, h.degrees run.start start_below),
            omega (arith, w, h.degrees run.at at_below),
            λ e.
                let k : Branch g built run.start = subst (Branch g built) (walk_start walked) (f.closed (walk_start walked ∙ e ∙ sym (walk_stop walked))) in
                omega (arith, k, h.degrees run.start start_below),
          )

      back : FitsEar degrees run → EarFits g built walk
      back (f, p, q, c) =
          let u : Built g built run.start = omega (arith, p, h.degrees run.start start_below) in
          let w : Built g built run.at = omega (arith, q, h.degrees run.at at_below) in
          let r = (ear_fresh walked u).1 (tells run.fresh h.fresh f) in
          record {
            begins = subst (Built g built) (sym (walk_start walked)) u;
            ends = subst (Built g built) (sym (walk_stop walked)) w;
            fresh = r.1;
            simple = r.0;
            closed = λ e. subst (Branch g built) (sym (walk_start walked))
                (omega (arith, c (sym (walk_start walked) ∙ e ∙ walk_stop walked), h.degrees run.start start_below));
          }

  -- 15
  module _ (f : FitsEar degrees run) where
    marked : Lefts list row left
    marked = h.lefts f.0

    -- the row of a vertex that is built and no branch
    record Found (v : ℕ) : Type 0 where
      row_of : ℕ
      below : row_of < run.first
      from : from_at list row_of ≡ v
      mark : get_or left v 0 ≡ suc row_of

    found : (v : ℕ) → v < most.vertices → 1 ≤ get_or degrees v 0 → get_or degrees v 0 < 3 → Found v
    found v l p q =
        let i : Inside done v = built_inside v mader distinct (omega (arith, p, h.degrees v l)) (λ k. omega (arith, k, q, h.degrees v l)) in
        let s = span h.laid i.member in
        let r = inner-row s.lies i.inside in
        record {
          row_of = suc r.before;
          below = omega (arith, r.below, s.within);
          from = r.is;
          mark = sym (ap (λ (x : ℕ). get_or left x 0) r.is) ∙ marked.mark r.before (omega (arith, r.below, s.within, b)) r.on;
        }

    rows_fit : (v : ℕ) → Found v → 3 * row ≤ length list → row ≤ most.edges → (1 ≤ get_or left v 0) × RowsFit most degrees list (get_or left v 0)
    rows_fit v r l m = (
      omega (arith, r.mark),
      record {
        rows = omega (arith, r.mark, r.below, b, l);
        from = λ k c. omega (arith, h.marks_length, vertex_below k (omega (arith, c, r.mark, r.below, b)));
        within = omega (arith, r.mark, r.below, b, m);
      },
    )

    pub reads : 3 * row ≤ length list → row ≤ most.edges → Reads most degrees list run (get_or left run.start 0) (get_or left run.at 0)
    reads l m = record {
      start = omega (arith, start_below, h.marks_length);
      at = omega (arith, at_below, h.marks_length);
      start-row = λ q. rows_fit run.start (found run.start start_below f.1 q) l m;
      at_row = λ q. rows_fit run.at (found run.at at_below f.2 q) l m;
    }

    -- bare edges lead from one end to the other exactly if their rows are joined
    module _ (u w : ℕ) (p : Found u) (q : Found w) (n : Branch g built u → ⊥) where
      at_home : Home list done run.first p.row_of
      at_home = home p.row_of h.laid p.below

      along : WalkIn g built at_home.legs
      along = walk_in mader distinct at_home.member

      placed : (i : ℕ) → i < run.first → step_at list i ≡ step_at list p.row_of → Placed list (step_at list p.row_of) at_home.legs at_home.base i
      placed i c e = let r = at_home.all i c e in row_place i at_home.lies r.0 r.1

      here : Placed list (step_at list p.row_of) at_home.legs at_home.base p.row_of
      here = placed p.row_of p.below refl

      place_u : Place at_home.legs here.place (edge_at list p.row_of) u
      place_u = subst (Place at_home.legs here.place (edge_at list p.row_of)) p.from here.here

      module _ (same : step_at list q.row_of ≡ step_at list p.row_of) where
        there : Placed list (step_at list p.row_of) at_home.legs at_home.base q.row_of
        there = placed q.row_of q.below same

        place_w : Place at_home.legs there.place (edge_at list q.row_of) w
        place_w = subst (Place at_home.legs there.place (edge_at list q.row_of)) q.from there.here

        inside : (k : ℕ) → Within p.row_of q.row_of k → (at_home.base ≤ k) × (k < at_home.top)
        inside k (inl t) = (omega (arith, t.0, (at_home.all p.row_of p.below refl).0), omega (arith, t.1, (at_home.all q.row_of q.below same).1))
        inside k (inr t) = (omega (arith, t.0, (at_home.all q.row_of q.below same).0), omega (arith, t.1, (at_home.all p.row_of p.below refl).1))

        clear_plain : Clear g built at_home.legs here.place there.place ↔ ((k : ℕ) → Within p.row_of q.row_of k → get_or degrees (from_at list k) 0 < 3)
        clear_plain = (to, from)
          where
            to : Clear g built at_home.legs here.place there.place → (k : ℕ) → Within p.row_of q.row_of k → get_or degrees (from_at list k) 0 < 3
            to c k l =
                let r = inside k l in
                let x = row_place k at_home.lies r.0 r.1 in
                let within = (shift at_home.base here.place there.place x.place here.at there.at x.at).0 l in
                let is = h.degrees (from_at list k) (vertex_below k (omega (arith, r.1, at_home.within, b))) in
                elim (dec_le 3 (get_or degrees (from_at list k) 0)) [
                  | yes t ↦ absurd (c x.place (edge_at list k) (from_at list k) within x.here (omega (arith, t, is)))
                  | no t ↦ omega (arith, t)
                ]

            from : ((k : ℕ) → Within p.row_of q.row_of k → get_or degrees (from_at list k) 0 < 3) → Clear g built at_home.legs here.place there.place
            from c k e v l x y =
                let r = place_row at_home.lies x in
                let within = (shift at_home.base here.place there.place k here.at there.at r.at).1 l in
                let is = h.degrees (from_at list r.row) (vertex_below r.row (omega (arith, r.below, at_home.within, b))) in
                let k : Branch g built (from_at list r.row) = subst (Branch g built) (sym r.from) y in
                omega (arith, k, is, c r.row within)

      joined_reach : Joined degrees list p.row_of q.row_of → Reach g (Bare g built) u w
      joined_reach j = (stretch along place_u (place_w (sym j.same)) n).1 ((clear_plain (sym j.same)).1 j.plain)

      reach_same : Reach g (Bare g built) u w → step_at list q.row_of ≡ step_at list p.row_of
      reach_same r =
          let i = inner-row at_home.lies (stays along place_u n r) in
          let m : suc q.row_of ≡ suc (suc i.before) = sym q.mark ∙ sym (ap (λ (x : ℕ). get_or left x 0) i.is) ∙ marked.mark i.before (omega (arith, i.below, at_home.within, b)) i.on in
          let e : q.row_of ≡ suc i.before = omega (arith, m) in
          ap (step_at list) e ∙ i.step

      reach_joined : Reach g (Bare g built) u w → Joined degrees list p.row_of q.row_of
      reach_joined r = let s = reach_same r in record { same = sym s; plain = (clear_plain s).0 ((stretch along place_u (place_w s) n).0 r) }

    -- the ends of the step
    module _ (p : get_or degrees run.start 0 < 3) (q : get_or degrees run.at 0 < 3) where
      from : Found run.start
      from = found run.start start_below f.1 p

      to : Found run.at
      to = found run.at at_below f.2 q

      plain : Branch g built run.start → ⊥
      plain k = omega (arith, k, p, h.degrees run.start start_below)

      first_row : get_or left run.start 0 - 1 ≡ from.row_of
      first_row = omega (arith, from.mark)

      last_row : get_or left run.at 0 - 1 ≡ to.row_of
      last_row = omega (arith, to.mark)

      same_link_lem : Joined degrees list (get_or left run.start 0 - 1) (get_or left run.at 0 - 1) ↔ Reach g (Bare g built) run.start run.at
      same_link_lem = rw (first_row, last_row) (joined_reach run.start run.at from to plain, reach_joined run.start run.at from to plain)

    pub links_are : Decides (links_fit g built walk) (FitsLinks degrees list run (get_or left run.start 0) (get_or left run.at 0))
    links_are = decides_to (rw (walk_start walked, walk_stop walked) at (links_fit_lem g built walk (rw (walk_stop walked) (walk_to walked)))) there back
      where
        there : (Branch g built run.start ⊎ Branch g built run.at) ⊎ (Reach g (Bare g built) run.start run.at → ⊥)
            → FitsLinks degrees list run (get_or left run.start 0) (get_or left run.at 0)
        there (inl (inl k)) = inl (inl (omega (arith, k, h.degrees run.start start_below)))
        there (inl (inr k)) = inl (inr (omega (arith, k, h.degrees run.at at_below)))
        there (inr r) = elim (dec_le 3 (get_or degrees run.start 0)) [
          | yes k ↦ inl (inl k)
          | no k ↦ elim (dec_le 3 (get_or degrees run.at 0)) [
            | yes l ↦ inl (inr l)
            | no l ↦ inr (λ j. r ((same_link_lem (omega (arith, k)) (omega (arith, l))).0 j))
          ]
        ]

        back : FitsLinks degrees list run (get_or left run.start 0) (get_or left run.at 0)
            → (Branch g built run.start ⊎ Branch g built run.at) ⊎ (Reach g (Bare g built) run.start run.at → ⊥)
        back (inl (inl k)) = inl (inl (omega (arith, k, h.degrees run.start start_below)))
        back (inl (inr k)) = inl (inr (omega (arith, k, h.degrees run.at at_below)))
        back (inr j) = elim (dec_le 3 (get_or degrees run.start 0)) [
          | yes k ↦ inl (inl (omega (arith, k, h.degrees run.start start_below)))
          | no k ↦ elim (dec_le 3 (get_or degrees run.at 0)) [
            | yes l ↦ inl (inr (omega (arith, l, h.degrees run.at at_below)))
            | no l ↦ inr (λ r. j ((same_link_lem (omega (arith, k)) (omega (arith, l))).1 r))
          ]
        ]
