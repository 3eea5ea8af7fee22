-- The tests on a whole step and what they decide: three paths, a Mader-path, its links, and the end of the record.
use mathlib.Core.Path.{◌≡◌, refl, sym, subst}
use mathlib.Core.Logic.{◌⊎◌, inl, inr, ◌↔◌}
use mathlib.Core.Bool.{Bool, true, false, not, cond, ◌&&◌}
use mathlib.Core.List.Memᴰ.{cases_cons as in-cons}
use mathlib.Core.List.Memᴰ.{head as first}
use mathlib.Core.List.Memᴰ.{not-nil as not_in}
use mathlib.Core.List.Memᴰ.{tail as later}
use mathlib.Core.List.{List, [], ◌∷◌, Memᴰ as In}
use Prim.Native.Nat.{ℕ, ◌≤◌, ◌<◌}
use native.Mathlib.Omega.{arith}
use native.Mathlib.Decide.{ℕ_discrete}
use lib.Dec.{T, leb, leb→le, le→leb}
use lib.ListN.{length}
use borrow.Author.Tests.{lt-ltb, le-ltb}
use Rattle.connectivity.specs.Lists.{Distinct, all, mem, distinct}
use Rattle.connectivity.specs.Graph.{Graph, Vertex, vertices}
use Rattle.connectivity.specs.Reach.{Reach}
use Rattle.connectivity.specs.Cut.{unreached}
use Rattle.connectivity.specs.Walk.{Leg, Walk, Between, inner, all_inner, all_edges, degree, Built, Branch, is_built, is_branch, start, stop}
use Rattle.connectivity.specs.Link.{is_bare, same_link}
use Rattle.connectivity.specs.Mader.{MaderPath}
use Rattle.connectivity.specs.Judge.{leads_between, all_between, paths_fit, ear_fits, links_fit, step_number, closing_number}
use Rattle.connectivity.proofs.Lists.{T-dec, mem_in, in_mem, not_mem, distinct_is, Decides, decides, decides_eq, decides_le, decides_not, decides_to, decides_and, decides_or, decides_all}
use Rattle.connectivity.proofs.Reach.{reach_map}
use Rattle.connectivity.proofs.Search.{vertices_are, unreached_not, unreached_or}
use Rattle.connectivity.proofs.Degree.{walk_to}
use Rattle.connectivity.proofs.Stage.{Stage, Bare}
use Rattle.connectivity.proofs.Link.{same_link_lem, link_bare}
use Rattle.connectivity.proofs.Legs.{walk_start, walk_stop}

-- Built vertices and branches.

module _ (g : Graph) (built : List ℕ) (v : ℕ) where
  pub is_built_lem : Decides (is_built g built v) (Built g built v)
  unfolding is_built
  is_built_lem = record { holds = leb→le 1 (degree g built v); test = le→leb 1 (degree g built v) }

  pub is_branch_lem : Decides (is_branch g built v) (Branch g built v)
  unfolding is_branch
  is_branch_lem = record { holds = leb→le 3 (degree g built v); test = le→leb 3 (degree g built v) }

-- Links.

pub is_bare_lem : (g : Graph) (built : List ℕ) (e : ℕ) → Decides (is_bare g built e) (Bare g built e)
unfolding is_bare
is_bare_lem g built e = decides_to
    (decides_and (decides (mem e built) (mem_in e built, in_mem))
    (decides_and (decides_not (is_branch_lem g built (g.left e))) (decides_not (is_branch_lem g built (g.right e)))))
    (λ (i, p). (i, p.0, p.1)) (λ (i, l, r). (i, (l, r)))

-- bare edges lead from u to w
pub same_link_is : (g : Graph) (built : List ℕ) (u w : ℕ) → Vertex g w → Decides (same_link g built u w) (Reach g (Bare g built) u w)
unfolding same_link
same_link_is g built u w h = decides_to (decides (not (mem w (unreached g (is_bare g built) u))) (not_mem w (unreached g (is_bare g built) u)))
    (λ n. elim (unreached_or g (is_bare g built) u h) [ inl i ↦ absurd (n i) | inr r ↦ reach_map (λ e. (is_bare_lem g built e).holds) r ])
    (λ r i. (unreached_not g (is_bare g built) u i).1 (reach_map (λ e. (is_bare_lem g built e).test) r))

-- A later step.

module _ (g : Graph) (built : List ℕ) (legs : List Leg) where
  abbrev u : ℕ
  u = start legs

  abbrev w : ℕ
  w = stop g legs

  -- 14
  pub record EarFits : Type 0 where
    pub begins : Built g built u
    pub ends : Built g built w
    pub fresh : (v : ℕ) → In v (inner legs) → Built g built v → ⊥
    pub simple : Distinct (inner legs)
    pub closed : u ≡ w → Branch g built u

  pub ear_fits_lem : Decides (ear_fits g built legs) EarFits
  unfolding ear_fits
  ear_fits_lem = decides_to
      (decides_and
      (decides_and (decides_and (is_built_lem g built u) (is_built_lem g built w))
      (decides_and (decides_all (λ v. decides_not (is_built_lem g built v)) (inner legs)) (decides (distinct (inner legs)) (distinct_is (inner legs)))))
      (decides_or (decides_not (decides_eq u w)) (is_branch_lem g built u)))
      (λ (p, c). record {
        begins = p.0.0;
        ends = p.0.1;
        fresh = p.1.0;
        simple = p.1.1;
        closed = λ e. elim c [ inl n ↦ absurd (n e) | inr b ↦ b ];
      })
      (λ f. (((f.begins, f.ends), (f.fresh, f.simple)), elim (ℕ_discrete u w) [ yes e ↦ inr (f.closed e) | no n ↦ inl n ]))

  -- 15, in terms of bare edges
  pub links_fit_lem : Vertex g w → Decides (links_fit g built legs) ((Branch g built u ⊎ Branch g built w) ⊎ (Reach g (Bare g built) u w → ⊥))
  unfolding links_fit
  links_fit_lem h = decides_or (decides_or (is_branch_lem g built u) (is_branch_lem g built w)) (decides_not (same_link_is g built u w h))

  pub fitting_path : Walk g u legs w → T (ear_fits g built legs) → T (links_fit g built legs) → MaderPath g built u legs w
  fitting_path k t l = let f = ear_fits_lem.holds t in record {
    walk = k;
    begins = f.begins;
    ends = f.ends;
    fresh = f.fresh;
    simple = f.simple;
    closed = f.closed;
    links = λ n m s. elim ((links_fit_lem (walk_to k)).holds l) [ inl b ↦ elim b [ inl h ↦ n h | inr h ↦ m h ] | inr h ↦ h (link_bare s) ];
  }

  pub path_fitting : Stage g built → MaderPath g built u legs w → T (ear_fits g built legs) × T (links_fit g built legs)
  path_fitting s e = (
    ear_fits_lem.test (record { begins = e.begins; ends = e.ends; fresh = e.fresh; simple = e.simple; closed = e.closed }),
    (links_fit_lem (walk_to e.walk)).test (elim (T-dec (is_branch g built u)) [
      | yes b ↦ inl (inl ((is_branch_lem g built u).holds b))
      | no n ↦ elim (T-dec (is_branch g built w)) [
        | yes b ↦ inl (inr ((is_branch_lem g built w).holds b))
        | no m ↦
            let plain : Branch g built u → ⊥ = λ h. n ((is_branch_lem g built u).test h) in
            inr (λ r. e.links plain (λ h. m ((is_branch_lem g built w).test h)) (same_link_lem s e.begins plain r))
      ]
    ]),
  )

-- The first three steps.

-- a walk leads where its legs do
abbrev pub Sound : Graph → List (List Leg) → Type 0
Sound g walks = (legs : List Leg) → In legs walks → Walk g (start legs) legs (stop g legs)

pub walk_sound : {g : Graph} {a b : ℕ} {legs : List Leg} → Walk g a legs b → Walk g (start legs) legs (stop g legs)
walk_sound k = rw (walk_start k, walk_stop k) k

abbrev AllBetween : Graph → ℕ → ℕ → List (List Leg) → Type 0
AllBetween g a b walks = (legs : List Leg) → In legs walks → Between g a legs b

module _ (g : Graph) (a b : ℕ) where
  leads_between_lem : (legs : List Leg) → Walk g (start legs) legs (stop g legs) → Decides (leads_between g a b legs) (Between g a legs b)
  unfolding leads_between
  leads_between_lem legs k = decides_to
      (decides_or (decides_and (decides_eq (start legs) a) (decides_eq (stop g legs) b)) (decides_and (decides_eq (start legs) b) (decides_eq (stop g legs) a)))
      (λ c. elim c [ inl p ↦ inl (rw (← p.0, ← p.1) k) | inr p ↦ inr (rw (← p.0, ← p.1) k) ])
      (λ c. elim c [ inl q ↦ inl (walk_start q, walk_stop q) | inr q ↦ inr (walk_start q, walk_stop q) ])

  all_between_lem : (walks : List (List Leg)) → Sound g walks → Decides (all_between g a b walks) (AllBetween g a b walks)
  unfolding all_between
  all_between_lem [] s = record { holds = λ t legs i. absurd (not_in i); test = λ f. tt }
  all_between_lem (legs ∷ walks) s = decides_to (decides_and (leads_between_lem legs (s legs (first refl))) (all_between_lem walks (λ l i. s l (later i))))
      (λ (p, q) l i. elim (in-cons i) [ inl e ↦ subst (λ (m : List Leg). Between g a m b) (sym e) p | inr j ↦ q l j ])
      (λ f. (f legs (first refl), λ l i. f l (later i)))

  -- 13, of the walk from a to b and those before it
  pub paths_fit_lem : (done : List (List Leg)) (legs : List Leg) → Walk g a legs b → Sound g done
      → Decides (paths_fit g done legs) (AllBetween g a b done × Distinct (a ∷ b ∷ all_inner (legs ∷ done)))
  unfolding paths_fit
  paths_fit_lem done legs k s = rw (walk_start k, walk_stop k) (decides_and (all_between_lem done s) (decides (distinct (a ∷ b ∷ all_inner (legs ∷ done))) (distinct_is (a ∷ b ∷ all_inner (legs ∷ done)))))

-- The numbers of a step and of the end.

zero_when : (t : Bool) (n : ℕ) → (n ≡ 0 → ⊥) → (cond t 0 n ≡ 0) ↔ T t
zero_when true n h = (λ p. tt, λ t. refl)
zero_when false n h = (λ p. h p, λ t. absurd t)

zero_both : (s t : Bool) (m n : ℕ) → (m ≡ 0 → ⊥) → (n ≡ 0 → ⊥) → (cond s (cond t 0 n) m ≡ 0) ↔ (T s × T t)
zero_both true t m n h k = (λ p. (tt, (zero_when t n k).0 p), λ p. (zero_when t n k).1 p.1)
zero_both false t m n h k = (λ p. absurd (h p), λ p. absurd p.0)

module _ (g : Graph) (done : List (List Leg)) (legs : List Leg) where
  pub step_few : length done < 3 → (step_number g done legs ≡ 0) ↔ T (paths_fit g done legs)
  unfolding step_number
  step_few h = rw (lt-ltb (length done) 3 h) (zero_when (paths_fit g done legs) 13 (λ z. omega arith))

  pub step_many : 3 ≤ length done → (step_number g done legs ≡ 0) ↔ (T (ear_fits g (all_edges done) legs) × T (links_fit g (all_edges done) legs))
  unfolding step_number
  step_many h = rw (le-ltb (length done) 3 h) (zero_both (ear_fits g (all_edges done) legs) (links_fit g (all_edges done) legs) 14 15 (λ z. omega arith) (λ z. omega arith))

-- 16
pub closing : (g : Graph) (done : List (List Leg)) → (closing_number g done ≡ 0) ↔ ((3 ≤ length done) × ((v : ℕ) → Vertex g v → Branch g (all_edges done) v))
unfolding closing_number
closing g done = (λ p. d.holds (z.0 p), λ q. z.1 (d.test q))
  where
    d : Decides (leb 3 (length done) && all (is_branch g (all_edges done)) (vertices g)) ((3 ≤ length done) × ((v : ℕ) → Vertex g v → Branch g (all_edges done) v))
    d = decides_and (decides_le 3 (length done))
        (decides_to (decides_all (is_branch_lem g (all_edges done)) (vertices g)) (λ f v h. f v ((vertices_are g v).1 h)) (λ f v i. f v ((vertices_are g v).0 i)))

    z : (closing_number g done ≡ 0) ↔ T (leb 3 (length done) && all (is_branch g (all_edges done)) (vertices g))
    z = zero_when (leb 3 (length done) && all (is_branch g (all_edges done)) (vertices g)) 16 (λ z. omega arith)
