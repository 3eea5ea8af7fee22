-- Turn by turn: what a turn makes of the claims and the groups, what it leaves of the tables, and the way along a chain.
use mathlib.Core.Path.{◌≡◌, refl, sym, ap, ◌∙◌, subst}
use mathlib.Core.Bool.{Bool, cond}
use mathlib.Core.List.{List, [], ◌∷◌}
use Prim.Native.Nat.{ℕ, ◌+◌, ◌-◌, ◌/◌, ◌≤◌, ◌<◌}
use native.Mathlib.Omega.{arith}
use native.Mathlib.Decide.{ℕ_discrete}
use lib.ListN.{length, get_or, length-set}
use lib.Seq.{get_or-set_other}
use Rattle.connectivity.specs.Plan.{Plan, graph, Limits}
use Rattle.connectivity.specs.Graph.{Graph, Edge}
use Rattle.connectivity.proofs.Kept.{vertex_size, edge_size_lem}
use Rattle.graph.specs.Marks.{read}
use Rattle.incidence.specs.Parts.{Kept}
use Rattle.labels.specs.Label.{Keeps}
use Rattle.labels.proofs.CutLabels.{no_loops}
use Rattle.chains.specs.Chains.{key_of, keys, named, Lowest}
use Rattle.chains.proofs.Lowest.{named_some}
use Rattle.cuts.specs.Alike.{Chaining}
use Rattle.components.specs.Pair.{LowestPair}
use Rattle.components.specs.Stars.{Attempt, joined, parted, Turn, other, taken, tried, Singles, Stars, Working, Worked}
use Rattle.components.proofs.Starring.{Setting, singles_pass, singles_claimed, singles_try, star_skip, star_claimed, star_try, star_end}

-- What is left of the tables.

attempt_kept : {g : Graph} {n : ℕ} {cut : List ℕ} {d : ℕ} {table₀ table : List ℕ} {r : Bool} → Attempt g n cut d table₀ table r → Kept n table₀ table
attempt_kept (joined same root far j w) = record { long = ap length same; rest = λ k l. ap (λ (t : List ℕ). get_or t k 0) same }
attempt_kept (parted long root far j ne side tells p) = record { long = long; rest = p.rest }

pub worked_same : {n : ℕ} {claimed table : List ℕ} → Worked n claimed table claimed table
worked_same = record { claimed_long = refl; claims = λ x z. z; kept = record { long = refl; rest = λ k l. refl } }

pub worked_more : {n : ℕ} {claimed₀ table₀ claimed₁ table₁ claimed table : List ℕ} → Worked n claimed₀ table₀ claimed₁ table₁ → Worked n claimed₁ table₁ claimed table
    → Worked n claimed₀ table₀ claimed table
worked_more a b = record {
  claimed_long = b.claimed_long ∙ a.claimed_long;
  claims = λ x z. a.claims x (b.claims x z);
  kept = record { long = b.kept.long ∙ a.kept.long; rest = λ k l. b.kept.rest k l ∙ a.kept.rest k l };
}

pub worked_turn : {g : Graph} {n label e d : ℕ} {labels claimed₀ table₀ claimed table : List ℕ} → Turn g n label e d labels claimed₀ table₀ claimed table → Worked n claimed₀ table₀ claimed table
worked_turn (other ne p q) = rw (p, q) worked_same
worked_turn (taken ne p q) = rw (p, q) worked_same
worked_turn {d = d} {claimed₀ = claimed₀} (tried {r} z p a) = record {
  claimed_long = ap length p ∙ length-set claimed₀ d (cond r 1 0);
  claims = λ x y. elim (ℕ_discrete x d) [ yes q ↦ rw q z | no q ↦ sym (ap (λ (l : List ℕ). get_or l x 0) p ∙ get_or-set_other claimed₀ d x (cond r 1 0) 0 q) ∙ y ];
  kept = attempt_kept a;
}

module _ {most : Limits} {p : Plan} {incident begins first labels claimed₀ table₀ : List ℕ} (s : Working most p incident begins first labels claimed₀ table₀) where
  pub working_on : {claimed table : List ℕ} → Worked p.vertices claimed₀ table₀ claimed table → Working most p incident begins first labels claimed table
  working_on w = record {
    tabled = s.tabled;
    first_room = s.first_room;
    labels_room = s.labels_room;
    balanced = s.balanced;
    claimed_room = omega (arith, s.claimed_room, w.claimed_long);
    masking = λ x l z. s.masking x l (w.claims x z);
    table_room = omega (arith, s.table_room, w.kept.long);
  }

  pub working_setting : Setting (graph p) p.vertices (length p.ends / 2) (read labels)
  working_setting = record {
    below = λ v. vertex_size p;
    inside = λ e. edge_size_lem p;
    loops = no_loops s.tabled.admitted;
    balanced = s.balanced;
  }

-- What a turn makes of the claims and the groups.

module _ {g : Graph} {n m : ℕ} {labels : List ℕ} (t : Setting g n m (read labels)) {k : ℕ} (h : k < m) {claimed table claimed' table' : List ℕ} (room : m ≤ length claimed) where
  pub singles_turn : Singles g n m k claimed table → Turn g n 0 k k labels claimed table claimed' table' → Singles g n m (k + 1) claimed' table'
  singles_turn s (other ne p q) = rw (p, q) (singles_pass t h s ne)
  singles_turn s (taken ne p q) = rw (p, q) (singles_claimed t h s ne)
  singles_turn s (tried z p a) = rw p (singles_try t h s (omega arith) a)

  -- the edge that is looked at is not claimed itself
  module _ (edge : Edge g k) (keeps : Keeps g (k ∷ [])) (low : LowestPair g k k) {d : ℕ} (l : k < d) (b : d < m) where
    pub star_turn : Stars g n m k d claimed table → Turn g n (get_or labels k 0) k d labels claimed table claimed' table' → Stars g n m k (d + 1) claimed' table'
    star_turn s (other ne p q) = rw (p, q) (star_skip t h d (d + 1) (λ x o i e j w. let z : x ≡ d = omega arith in ne (ap (read labels) (sym z) ∙ sym w)) s)
    star_turn s (taken ne p q) = rw (p, q) (star_claimed t h l b s ne)
    star_turn s (tried z p a) = rw p (star_try t h l b s (omega arith) z edge keeps low a)

-- The way along a chain.

-- x names the next edge of the chain of e
pub record OnChain (key : ℕ → ℕ) (m e x : ℕ) : Type 0 where
  pub inside : x ≤ m
  pub on : 0 < x → key (x - 1) ≡ key e
  pub above : e < named m x

module _ {g : Graph} {n m : ℕ} {labels next : List ℕ} (t : Setting g n m (read labels)) (c : Chaining m labels next) {e : ℕ} (h : e < m) where
  abbrev key : ℕ → ℕ
  key = keys c.size labels

  -- what is between two edges of the chain has another label
  skip : {claimed table : List ℕ} (d x : ℕ) → key d ≡ key e → Lowest key (key d) (d + 1) m x → Stars g n m e (d + 1) claimed table → Stars g n m e (named m x) claimed table
  skip d x q l s = star_skip t h (d + 1) (named m x) (λ y o i b j w. l.between y (omega arith) b (ap (key_of c.size) (sym w) ∙ sym q)) s

  pub chain_start : {claimed table : List ℕ} → Stars g n m e 0 claimed table → OnChain key m e (get_or next e 0) × Stars g n m e (named m (get_or next e 0)) claimed table
  chain_start s = let l = c.follows e h in
      (record { inside = l.inside; on = l.on; above = omega (arith, l.low) }, skip e (get_or next e 0) refl l (star_skip t h 0 (e + 1) (λ y o i b j w. omega arith) s))

  module _ {x : ℕ} (w : OnChain key m e x) (some : 0 < x) where
    chain_at : named m x ≡ x - 1
    chain_at = named_some m x some

    chain_above : e < x - 1
    chain_above = omega (arith, w.above, chain_at)

    follows : Lowest key (key (x - 1)) (x - 1 + 1) m (get_or next (x - 1) 0)
    follows = c.follows (x - 1) (omega (arith, w.inside))

    chain_next : {claimed table : List ℕ} → Stars g n m e (x - 1 + 1) claimed table → OnChain key m e (get_or next (x - 1) 0) × Stars g n m e (named m (get_or next (x - 1) 0)) claimed table
    chain_next s = let l = follows in
        (record { inside = l.inside; on = λ o. l.on o ∙ w.on some; above = omega (arith, l.low, chain_above) }, skip (x - 1) (get_or next (x - 1) 0) (w.on some) l s)

    -- a turn with the edge that x names
    pub chain_turn : {claimed table claimed' table' : List ℕ} → m ≤ length claimed → Edge g e → Keeps g (e ∷ []) → LowestPair g e e → Stars g n m e (named m x) claimed table
        → Turn g n (get_or labels e 0) e (x - 1) labels claimed table claimed' table' → OnChain key m e (get_or next (x - 1) 0) × Stars g n m e (named m (get_or next (x - 1) 0)) claimed' table'
    chain_turn {claimed} {table} room edge keeps low s a =
        chain_next (star_turn t h room edge keeps low chain_above (omega (arith, w.inside)) (subst (λ (y : ℕ). Stars g n m e y claimed table) chain_at s) a)

    -- the way ends
    pub chain_less : m - named m (get_or next (x - 1) 0) < m - named m x
    chain_less = omega (arith, chain_at, follows.low, w.inside)

  pub chain_end : {claimed table : List ℕ} (x : ℕ) → x ≡ 0 → Stars g n m e (named m x) claimed table → Stars g n m (e + 1) 0 claimed table
  chain_end {claimed} {table} x z s = star_end t h (subst (λ (y : ℕ). Stars g n m e (named m y) claimed table) z s)
