-- A way up while it is walked: the legs that are done, those that are left, and how many these are.
use Rattle.std.proofs.Common.{◌≡◌, ℕ, zero, suc, ◌+◌, ◌-◌, ◌/◌, ◌<◌, ◌≤◌, Bool, true, false, cond, eqb, ◌⊎◌, List, [], ◌∷◌, ◌++◌, length, sym, refl, ap, ◌∙◌, subst, inl, inr, append_assoc, append-nil, arith, length-append, eq-eqb, ne_eqb}
use mathlib.Core.List.Memᴰ
use mathlib.Core.List.Memᴰ.{append_cases as in-cases}
use mathlib.Core.List.Memᴰ.{append_left as in_left}
use mathlib.Core.List.Memᴰ.{append_right as in_right}
use mathlib.Core.List.Memᴰ.{eq_of_singleton}
use mathlib.Core.List.Memᴰ.{head as here}
use mathlib.Core.List.Memᴰ.{tail as later}
use mathlib.Core.List.{Memᴰ as In}
use Rattle.connectivity.specs.Plan.{Plan, plan, graph, Limits}
use Rattle.connectivity.specs.Graph.{Graph}
use Rattle.connectivity.specs.Walk.{Leg, froms}
use Rattle.connectivity.specs.Lists.{Distinct}
use Rattle.connectivity.proofs.Reach.{joins_sym}
use Rattle.connectivity.proofs.Legs.{leg}
use Rattle.connectivity.proofs.Distinct.{apart_distinct}
use Rattle.graph.specs.Marks.{read}
use Rattle.graph.proofs.Joined.{joins_below, joins_edge}
use Rattle.record.specs.Ways.{Path, there, up, Way, Rises, next_up}
use Rattle.numbers.proofs.Marking.{far_end_lem}

pub froms-append : (l r : List Leg) → froms (l ++ r) ≡ froms l ++ froms r
froms-append [] r = refl
froms-append (k ∷ l) r = ap (λ (m : List ℕ). k.from ∷ m) (froms-append l r)

-- the next leg of a way up that is not at its end
pub record OneUp (p : Plan) (marks : List ℕ) (v : ℕ) (legs : List Leg) (stop : ℕ) : Type 0 where
  pub rest : List Leg
  pub same : legs ≡ leg (read marks v - 1) v ∷ rest
  pub rises : v < p.vertices
  pub seen : 1 ≤ read marks v
  pub edge : read marks v - 1 < length p.ends / 2
  pub leads : next_up p.ends marks v < p.vertices
  pub path : Path (graph p) (read marks) (next_up p.ends marks v) rest stop

one_up : {p : Plan} {v stop : ℕ} {marks : List ℕ} {legs : List Leg} → Path (graph p) (read marks) v legs stop → (v ≡ stop → ⊥)
    → OneUp p marks v legs stop
one_up there d = absurd (d refl)
one_up {p = p} {marks = marks} (up {w = w} {legs = legs} h j k) d =
    let q = far_end_lem p j in
    record {
      rest = legs;
      same = refl;
      rises = joins_below p (joins_sym j);
      seen = h;
      edge = joins_edge p j;
      leads = subst (λ (x : ℕ). x < p.vertices) (sym q) (joins_below p j);
      path = subst (λ (x : ℕ). Path (graph p) (read marks) x legs w) (sym q) k;
    }

module _ {g : Graph} {mark : ℕ → ℕ} where
  -- no leg is left at the end
  path_over : {v stop : ℕ} {legs : List Leg} → Path g mark v legs stop → v ≡ stop → (In stop (froms legs) → ⊥) → legs ≡ []
  path_over there p n = refl
  path_over (up h j k) p n = absurd (n (here (sym p)))

  -- it begins with its first leg, or is at its end
  path_start : {v stop : ℕ} {legs : List Leg} → Path g mark v legs stop → In v (froms legs) ⊎ (v ≡ stop)
  path_start there = inr refl
  path_start (up h j k) = inl (here refl)

path_below : (p : Plan) (marks : List ℕ) {v w : ℕ} {legs : List Leg} → Path (graph p) (read marks) v legs w → w < p.vertices → v < p.vertices
path_below p marks there l = l
path_below p marks (up h j k) l = joins_below p (joins_sym j)

-- How many legs it takes to a vertex that passes a test, by a count that ends.

unfoldable pub steps : (ℕ → Bool) → (ℕ → ℕ) → ℕ → ℕ → ℕ
steps done next zero v = 0
steps done next (suc k) v = cond (done v) 0 (suc (steps done next k (next v)))

steps_done : (done : ℕ → Bool) (next : ℕ → ℕ) (k v : ℕ) → done v ≡ true → steps done next k v ≡ 0
unfolding steps
steps_done done next zero v p = refl
steps_done done next (suc k) v p = rw p

steps_on : (done : ℕ → Bool) (next : ℕ → ℕ) (k v : ℕ) → done v ≡ false → steps done next (suc k) v ≡ suc (steps done next k (next v))
unfolding steps
steps_on done next k v p = rw p

steps_path : (p : Plan) (marks : List ℕ) {v stop : ℕ} {legs : List Leg} (done : ℕ → Bool) (k : ℕ) → Path (graph p) (read marks) v legs stop
    → ((u : ℕ) → In u (froms legs) → done u ≡ false) → done stop ≡ true → length legs ≤ k → steps done (next_up p.ends marks) k v ≡ length legs
steps_path p marks {v = v} done k there f t l = steps_done done (next_up p.ends marks) k v t
steps_path p marks done zero (up h j q) f t l = absurd (omega (arith, l))
steps_path p marks done (suc k) (up {v = v} h j q) f t l =
    steps_on done (next_up p.ends marks) k v (f v (here refl))
    ∙ ap suc (ap (steps done (next_up p.ends marks) k) (far_end_lem p j) ∙ steps_path p marks done k q (λ u i. f u (later i)) t (omega (arith, l)))

-- how many legs are left to a vertex that passes a test
abbrev pub ahead : Limits → List ℕ → List ℕ → (ℕ → Bool) → ℕ → ℕ
ahead most ends first test at = steps test (next_up ends first) most.vertices at

-- and to `stop`
abbrev pub left : Limits → List ℕ → List ℕ → ℕ → ℕ → ℕ
left most ends first stop at = ahead most ends first (λ u. eqb u stop) at

-- The legs up to `at` are done, those from there on are left.
pub record Onward {most : Limits} {ends first : List ℕ} {v stop : ℕ} (w : Way most ends first v stop) (at : ℕ) : Type 0 where
  pub done : List Leg
  pub rest : List Leg
  pub whole : w.legs ≡ done ++ rest
  pub path : Path (graph (plan w.n ends w.excluded)) (read first) at rest stop

abbrev pub onward_start : {most : Limits} {ends first : List ℕ} {v stop : ℕ} (w : Way most ends first v stop) → Onward w v
onward_start w = record { done = []; rest = w.legs; whole = refl; path = w.path }

module _ {most : Limits} {ends first : List ℕ} {v stop at : ℕ} {w : Way most ends first v stop} (o : Onward w at) where
  on_whole : froms w.legs ≡ froms o.done ++ froms o.rest
  on_whole = ap froms o.whole ∙ froms-append o.done o.rest

  pub done_on : {u : ℕ} → In u (froms o.done) → In u (froms w.legs)
  done_on {u} i = rw on_whole (in_left (froms o.rest) i)

  rest_on : {u : ℕ} → In u (froms o.rest) → In u (froms w.legs)
  rest_on {u} i = rw on_whole (in_right (froms o.done) i)

  pub onward_sum : length w.legs ≡ length o.done + length o.rest
  onward_sum = ap length o.whole ∙ length-append o.done o.rest

  pub onward_below : at < w.n
  onward_below = path_below (plan w.n ends w.excluded) first o.path w.to

  -- it is at a vertex that a leg leaves, or at the end
  pub onward_at : In at (froms w.legs) ⊎ (at ≡ stop)
  onward_at = elim (path_start o.path) [ inl i ↦ inl (rest_on i) | inr p ↦ inr p ]

  -- where it is, it has not been
  pub onward_new : In at (froms o.done) → ⊥
  onward_new i = elim (path_start o.path) [
    | inl j ↦ apart_distinct (froms o.done) (subst Distinct on_whole w.once) i j
    | inr p ↦ w.apart (done_on (Memᴰ.cast (sym p) i))
  ]

  -- at the end all legs are done
  pub onward_end : at ≡ stop → w.legs ≡ o.done
  onward_end p =
      o.whole ∙ ap (λ (l : List Leg). o.done ++ l) (path_over o.path p (λ i. w.apart (rest_on i))) ∙ append-nil o.done

  -- what one leg more has left
  pub step_cases : {u : ℕ} → In u (froms (o.done ++ (leg (read first at - 1) at ∷ []))) → In u (froms o.done) ⊎ (u ≡ at)
  step_cases {u} i = elim (in-cases (froms o.done) (subst (In u) (froms-append o.done (leg (read first at - 1) at ∷ [])) i)) [ inl j ↦ inl j | inr j ↦ inr (eq_of_singleton j) ]

  pub step_done : {u : ℕ} → In u (froms o.done) ⊎ (u ≡ at) → In u (froms (o.done ++ (leg (read first at - 1) at ∷ [])))
  step_done {u} c = rw (froms-append o.done (leg (read first at - 1) at ∷ [])) (elim c [ inl i ↦ in_left (at ∷ []) i | inr p ↦ in_right (froms o.done) (here p) ])

  -- one leg more
  module _ (d : at ≡ stop → ⊥) where
    pub onward_next : OneUp (plan w.n ends w.excluded) first at o.rest stop
    onward_next = one_up o.path d

    pub onward_rises : Rises ends first at
    onward_rises = record { long = omega (arith, w.long, onward_next.rises); seen = onward_next.seen; edge = onward_next.edge }

    pub onward_few : length o.done + 1 ≤ length w.legs
    onward_few = omega (arith, onward_sum, ap length onward_next.same)

    abbrev pub onward_step : Onward w (next_up ends first at)
    onward_step = record {
      done = o.done ++ (leg (read first at - 1) at ∷ []);
      rest = onward_next.rest;
      whole = o.whole ∙ ap (λ (l : List Leg). o.done ++ l) onward_next.same ∙ sym (append_assoc o.done (leg (read first at - 1) at ∷ []) onward_next.rest);
      path = onward_next.path;
    }

  -- how many legs are left, if a test tells the end
  ahead_is : (test : ℕ → Bool) → ((u : ℕ) → In u (froms w.legs) → test u ≡ false) → test stop ≡ true → ahead most ends first test at ≡ length o.rest
  ahead_is test f t = steps_path (plan w.n ends w.excluded) first test most.vertices o.path (λ u i. f u (rest_on i)) t (omega (arith, w.short, onward_sum))

pub ahead_less : {most : Limits} {ends first : List ℕ} {v stop at : ℕ} {w : Way most ends first v stop} (o : Onward w at) (test : ℕ → Bool)
    → ((u : ℕ) → In u (froms w.legs) → test u ≡ false) → test stop ≡ true → (at ≡ stop → ⊥)
    → ahead most ends first test (next_up ends first at) < ahead most ends first test at
ahead_less o test f t d = omega (arith, ahead_is o test f t, ahead_is (onward_step o d) test f t, ap length (onward_next o d).same)

pub left_less : {most : Limits} {ends first : List ℕ} {v stop at : ℕ} {w : Way most ends first v stop} (o : Onward w at) → (at ≡ stop → ⊥)
    → left most ends first stop (next_up ends first at) < left most ends first stop at
left_less {stop = stop} {w = w} o d =
    ahead_less o (λ u. eqb u stop) (λ u i. ne_eqb u stop (λ p. w.apart (Memᴰ.cast (sym p) i))) (eq-eqb stop stop refl) d
