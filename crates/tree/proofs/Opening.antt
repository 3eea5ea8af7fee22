-- The first three walks in the order in which they are written, and their places.
use mathlib.Core.Path.{◌≡◌, refl, sym, ◌∙◌, subst}
use mathlib.Core.Logic.{◌⊎◌, inl, inr, ⊎_swap}
use mathlib.Core.List.Memᴰ
use mathlib.Core.List.Memᴰ.{append_left as in_left}
use mathlib.Core.List.Memᴰ.{append_right as in_right}
use mathlib.Core.List.Memᴰ.{cases_cons as in-cons}
use mathlib.Core.List.Memᴰ.{head as first}
use mathlib.Core.List.Memᴰ.{tail as later}
use mathlib.Core.List.{List, [], ◌∷◌, Memᴰ as In}
use Prim.Native.Nat.{ℕ, ◌≤◌}
use native.Mathlib.Omega.{arith}
use native.Mathlib.Decide.{ℕ_discrete}
use Rattle.connectivity.specs.Graph.{Graph, Joins}
use Rattle.connectivity.specs.Walk.{Leg, froms, all_edges, hits, Built, Branch}
use Rattle.connectivity.specs.Mader.{Theta, theta}
use Rattle.connectivity.proofs.Distinct.{tail_distinct, apart_distinct}
use Rattle.connectivity.proofs.Degree.{hits_from, hits_on, in_degree}
use Rattle.connectivity.proofs.Stage.{all_degree, all_most}
use Rattle.connectivity.proofs.Legs.{leg}
use Rattle.tree.specs.Tree.{Pointers, Child, Above, Tree, Passing, Climb, on}
use Rattle.tree.specs.Filed.{Filed}
use Rattle.tree.proofs.Above.{not_over, climb_new, climb_as, climb_on, climb_child, climb_first}
use Rattle.tree.proofs.Step.{step}
use Rattle.tree.proofs.Begin.{built_edge, climb_start, climb_ends, meeting_below, meeting_child, round, beside, begin_theta, begin_once, begun, in_p, cases, first_x, first_r, first_q, root_branch, begin_held}
use Rattle.tree.specs.State.{Along, Places}
use Rattle.tree.proofs.Splitting.{filed_map}

-- from x up to the root, over f and up to x, over d and up to x
pub along_begin : {g : Graph} {t : Pointers} {c f d w u x : ℕ} {p q r : List Leg} → Tree g t → Child g t c
    → Passing g t c f t.root w → Passing g t c d t.root u → (f ≡ d → ⊥)
    → Climb g t (λ v. Above g t v w) u r x → Climb g t (λ v. v ≡ x) w q x → Climb g t (λ v. v ≡ t.root) x p t.root
    → Along g t (step d t.root r ∷ step f t.root q ∷ p ∷ [])
along_begin tree h one other n m k l = record {
  steps = theta (begin_theta tree h one other n m k l);
  once = begin_once tree h one other n m k l;
  held = begin_held tree h one other n m k l;
}

-- The places.

-- the root and x
abbrev pub Ends : Pointers → ℕ → ℕ → Type 0
Ends t x v = (v ≡ t.root) ⊎ (v ≡ x)

-- and what the three climbs leave
abbrev pub OnWalks : Pointers → ℕ → List Leg → List Leg → List Leg → ℕ → Type 0
OnWalks t x p q r v = ((Ends t x v ⊎ In v (froms p)) ⊎ In v (froms q)) ⊎ In v (froms r)

ends_dec : (t : Pointers) (x v : ℕ) → Dec (Ends t x v)
ends_dec t x v = elim (ℕ_discrete v t.root) [
  | yes p ↦ yes (inl p)
  | no n ↦ elim (ℕ_discrete v x) [ yes p ↦ yes (inr p) | no m ↦ no (λ e. elim e [ inl p ↦ n p | inr p ↦ m p ]) ]
]

-- before the first walk: both are branches, and nothing else is filed
pub filed_ends : {g : Graph} {t : Pointers} {x : ℕ} {place : ℕ → ℕ} → ((v : ℕ) → Ends t x v → place v ≡ 1)
    → ((v : ℕ) → (Ends t x v → ⊥) → place v ≡ 0) → Filed g t (λ v. Ends t x v) (λ v. Ends t x v) place
filed_ends {g} {t} {x} {place} one zero = record {
  off = λ v p e. omega (arith, p, one v e);
  built = λ v h. filed v h;
  branch = λ v p. filed v (omega (arith, p));
  plain = λ v h e. omega (arith, h, one v e);
  held = λ v c h. absurd (small v h);
  kept = λ v c h k. absurd (small v h);
  between = λ u y v a b h e. absurd (small u h);
  line = λ u v h e. absurd (small u h);
}
  where
    filed : (v : ℕ) → 1 ≤ place v → Ends t x v
    filed v h = elim (ends_dec t x v) [ yes e ↦ e | no n ↦ absurd (omega (arith, h, zero v n)) ]

    small : (v : ℕ) → 2 ≤ place v → ⊥
    small v h = omega (arith, h, one v (filed v (omega (arith, h))))

module _ {g : Graph} {t : Pointers} {c f d w u x : ℕ} {p q r : List Leg} (tree : Tree g t) (child : Child g t c)
    (one_door : Passing g t c f t.root w) (other_door : Passing g t c d t.root u) (differ : f ≡ d → ⊥)
    (meets : Climb g t (λ v. Above g t v w) u r x) (to_x : Climb g t (λ v. v ≡ x) w q x)
    (up : Climb g t (λ v. v ≡ t.root) (t.parent x) p t.root) where
  x_child : Child g t x
  x_child = meeting_child tree child one_door other_door meets

  -- x, and on from its parent
  pub to_root : Climb g t (λ v. v ≡ t.root) x (leg (t.first x) x ∷ p) t.root
  to_root = on x_child (meeting_below tree child one_door other_door meets) up

  -- The three climbs, each to what is filed before it.

  pub climb_one : Climb g t (λ v. Ends t x v) (t.parent x) p t.root
  climb_one = climb_as up (inl refl) (λ v i e. elim e [
    | inl h ↦ (climb_child tree up i).other h
    | inr h ↦ not_over tree x_child (subst (λ (y : ℕ). Above g t y (t.parent x)) h (climb_on tree up i))
  ])

  pub climb_two : Climb g t (λ v. Ends t x v ⊎ In v (froms p)) w q x
  climb_two = climb_as to_x (inl (inr refl)) (λ v i e. elim e [
    | inl (inl h) ↦ (climb_child tree to_x i).other h
    | inl (inr h) ↦ climb_new to_x i h
    | inr j ↦ apart_distinct (froms q) (tail_distinct (round tree child one_door other_door differ meets to_x to_root)) i (later j)
  ])

  pub climb_three : Climb g t (λ v. (Ends t x v ⊎ In v (froms p)) ⊎ In v (froms q)) u r x
  climb_three = climb_as meets (inl (inl (inr refl))) (λ v i e. beside tree child one_door other_door differ meets to_x to_root v i (elim e [
    | inl (inl (inl h)) ↦ first h
    | inl (inl (inr h)) ↦ later (in_right (froms q) (first h))
    | inl (inr j) ↦ later (in_right (froms q) (later j))
    | inr j ↦ later (in_left (x ∷ froms p) j)
  ]))

  -- What they have built.

  abbrev Begun : List ℕ
  Begun = begun tree child one_door other_door differ meets to_x to_root

  at_climb_q : {v : ℕ} → In v (froms q) ⊎ (v ≡ x) → OnWalks t x p q r v
  at_climb_q (inl i) = inl (inr i)
  at_climb_q (inr h) = inl (inl (inl (inr h)))

  at_climb_r : {v : ℕ} → In v (froms r) ⊎ (v ≡ x) → OnWalks t x p q r v
  at_climb_r (inl i) = inr i
  at_climb_r (inr h) = inl (inl (inl (inr h)))

  at_climb_p : {v : ℕ} → In v (x ∷ froms p) ⊎ (v ≡ t.root) → OnWalks t x p q r v
  at_climb_p (inl i) = elim (in-cons i) [ inl h ↦ inl (inl (inl (inr h))) | inr j ↦ inl (inl (inr j)) ]
  at_climb_p (inr h) = inl (inl (inl (inl h)))

  from_root : {e y v : ℕ} → Joins g e t.root y → hits g e v ≡ 1 → (v ≡ y → OnWalks t x p q r v) → OnWalks t x p q r v
  from_root {e} {y} {v} j h n = elim (hits_on v j (omega (arith, h))) [ inl p ↦ inl (inl (inl (inl p))) | inr p ↦ n p ]

  pub begun_on : (v : ℕ) → Built g Begun v → OnWalks t x p q r v
  begun_on v h = let (e, i, m) = built_edge g v Begun h in elim (cases tree child one_door other_door differ meets to_x to_root i) [
    | inl (inl a) ↦ from_root other_door.back.joins (subst (λ (z : ℕ). hits g z v ≡ 1) a m)
        (λ b. at_climb_r (elim (climb_start tree meets) [ inl o ↦ inl (Memᴰ.cast b o) | inr o ↦ inr (b ∙ o) ]))
    | inl (inr a) ↦ from_root one_door.back.joins (subst (λ (z : ℕ). hits g z v ≡ 1) a m)
        (λ b. at_climb_q (elim (climb_start tree to_x) [ inl o ↦ inl (Memᴰ.cast b o) | inr o ↦ inr (b ∙ o) ]))
    | inr (inl a) ↦ at_climb_r (climb_ends tree meets a m)
    | inr (inr (inl a)) ↦ at_climb_q (climb_ends tree to_x a m)
    | inr (inr (inr a)) ↦ at_climb_p (climb_ends tree to_root a m)
  ]

  first_built : {v : ℕ} → Child g t v → In (t.first v) Begun → Built g Begun v
  first_built {v} k i = in_degree g v i (hits_from (tree.joins v k))

  pub on_begun : (v : ℕ) → OnWalks t x p q r v → Built g Begun v
  on_begun v (inl (inl (inl (inl h)))) = subst (Built g Begun) (sym h) (omega (arith, root_branch tree child one_door other_door differ meets to_x to_root))
  on_begun v (inl (inl (inl (inr h)))) = subst (Built g Begun) (sym h) (first_built x_child (first_x tree child one_door other_door differ meets to_x to_root))
  on_begun v (inl (inl (inr i))) = first_built (climb_child tree up i) (in_p tree child one_door other_door differ meets to_x to_root (later (climb_first tree up i)))
  on_begun v (inl (inr i)) = first_built (climb_child tree to_x i) (first_q tree child one_door other_door differ meets to_x to_root (inl i))
  on_begun v (inr i) = first_built (climb_child tree meets i) (first_r tree child one_door other_door differ meets to_x to_root (inl i))

  the_theta : Theta g t.root x (step d t.root r ∷ step f t.root q ∷ (leg (t.first x) x ∷ p) ∷ [])
  the_theta = begin_theta tree child one_door other_door differ meets to_x to_root

  branch_end : (v : ℕ) → Branch g Begun v → Ends t x v
  branch_end v h = elim (ends_dec t x v) [
    | yes e ↦ e
    | no n ↦ absurd (omega (
      arith,
      h,
      all_most (step d t.root r ∷ step f t.root q ∷ (leg (t.first x) x ∷ p) ∷ []) v the_theta.between
          (λ e. n (inl e)) (λ e. n (inr e)) (tail_distinct (tail_distinct the_theta.simple)),
    ))
  ]

  end_branch : (v : ℕ) → Ends t x v → Branch g Begun v
  end_branch v (inl h) = subst (Branch g Begun) (sym h) (root_branch tree child one_door other_door differ meets to_x to_root)
  end_branch v (inr h) = subst (Branch g Begun) (sym h) (omega (
    arith,
    all_degree {g = g} {a = x} {b = t.root} (step d t.root r ∷ step f t.root q ∷ (leg (t.first x) x ∷ p) ∷ []) (λ l i. ⊎_swap (the_theta.between l i)),
  ))

  -- their insides filed, the places are those of what is built
  pub places_begin : {place : ℕ → ℕ} → Filed g t (λ v. OnWalks t x p q r v) (λ v. Ends t x v) place
      → Places g t (all_edges (step d t.root r ∷ step f t.root q ∷ (leg (t.first x) x ∷ p) ∷ [])) place
  places_begin h = filed_map on_begun begun_on end_branch branch_end h
