-- The state between steps, without a table: the steps so far, the places and the children noted below. A step keeps it.
use mathlib.Core.Path.{◌≡◌, refl, sym, ◌∙◌, subst}
use mathlib.Core.Logic.{◌⊎◌, inl, inr}
use mathlib.Core.List.{List, [], ◌∷◌, Memᴰ as In}
use Prim.Native.Nat.{ℕ}
use native.Mathlib.Omega.{arith}
use Rattle.connectivity.specs.Graph.{Graph}
use Rattle.connectivity.specs.Walk.{Leg, all_edges, Built, Branch}
use Rattle.connectivity.specs.Mader.{MaderPath}
use Rattle.connectivity.proofs.Legs.{leg}
use Rattle.tree.specs.Tree.{Pointers, Child, Above, Tree, Back, Passing, Climb}
use Rattle.tree.specs.State.{State}
use Rattle.tree.specs.Filed.{Filed, Marked, already, parted, Grown, Noted, Belows}
use Rattle.tree.proofs.Inside.{built_up}
use Rattle.tree.proofs.Step.{step}
use Rattle.tree.proofs.Splitting.{filed_already, filed_split, filed_grown, belows_split, belows_grown}
use Rattle.tree.proofs.Along.{along_stage, along_step, mader_built, mader_built_is, places_step}
use Rattle.tree.proofs.Opening.{Ends, OnWalks, to_root, along_begin, begun_on, on_begun, places_begin}

-- the same places under another name
filed_same : {g : Graph} {t : Pointers} {B K : ℕ → Type 0} {place after : ℕ → ℕ} → ((y : ℕ) → after y ≡ place y) → Filed g t B K place → Filed g t B K after
filed_same {t = t} e f = record {
  off = λ v p. f.off v (sym (e v) ∙ p);
  built = λ v h. f.built v (omega (arith, h, e v));
  branch = λ v p. f.branch v (sym (e v) ∙ p);
  plain = λ v h. f.plain v (omega (arith, h, e v));
  held = λ v c h. omega (arith, e (t.parent v), f.held v c (omega (arith, h, e v)));
  kept = λ v c h k. e v ∙ f.kept v c (omega (arith, h, e v)) (omega (arith, k, e (t.parent v))) ∙ sym (e (t.parent v));
  between = λ u y v a b h p. e y ∙ f.between u y v a b (omega (arith, h, e u)) (sym (e u) ∙ p ∙ e v) ∙ sym (e u);
  line = λ u v h p. f.line u v (omega (arith, h, e u)) (sym (e u) ∙ p ∙ e v);
}

module _ {g : Graph} {t : Pointers} {B K : ℕ → Type 0} {place after : ℕ → ℕ} {v : ℕ} (tree : Tree g t) (f : Filed g t B K place) where
  pub filed_marked : Marked g t K place after v → Filed g t B (λ y. K y ⊎ (y ≡ v)) after
  filed_marked (already k e) = filed_same e (filed_already k f)
  filed_marked (parted a b s) = filed_split tree f s

  pub belows_marked : {below : ℕ → ℕ} → Marked g t K place after v → Belows g t B place below → Belows g t B after below
  belows_marked (already k e) h = record { child = h.child; only = λ u c b l. h.only u c b (omega (arith, l, e (t.parent u))) }
  belows_marked (parted a b s) h = belows_split tree f s h

pub belows_map : {g : Graph} {t : Pointers} {B C : ℕ → Type 0} {place below : ℕ → ℕ} → ((v : ℕ) → B v → C v) → ((v : ℕ) → C v → B v)
    → Belows g t B place below → Belows g t C place below
belows_map bc cb h = record {
  child = λ v u p. let r = h.child v u p in (r.0, r.1, bc u r.2);
  only = λ u c b. h.only u c (cb u b);
}

-- a step: both ends are made branches, the inside gets a place of its own, and its vertices are noted below their parents
pub state_step : {g : Graph} {t : Pointers} {walks : List (List Leg)} {place below one two after noted : ℕ → ℕ} {f s w x m : ℕ} {legs : List Leg}
    → Tree g t → State g t walks place below
    → Back g t f s w → (In f (all_edges walks) → ⊥) → Climb g t (Built g (all_edges walks)) w legs x → MaderPath g (all_edges walks) s (step f s legs) x
    → Marked g t (λ v. Branch g (all_edges walks) v) place one s
    → Marked g t (λ v. Branch g (all_edges walks) v ⊎ (v ≡ s)) one two x
    → Grown two after legs m → Noted t below noted legs
    → State g t (step f s legs ∷ walks) after noted
state_step {g} {t} {walks} {s = s} {x = x} tree st b n k r mark-s mark-x grown note =
    let p = filed_marked tree st.filed mark-s in
    let q = filed_marked tree p mark-x in
    let h = belows_marked tree p mark-x (belows_marked tree st.filed mark-s st.belows) in
    record {
      along = along_step tree st.along b n k r;
      filed = places_step (along_stage st.along) r (filed_grown tree q is_built_lem k (inr refl) grown);
      belows = belows_map (mader_built_is (along_stage st.along) r) (mader_built (along_stage st.along) r)
          (belows_grown tree q is_built_lem k (inr refl) grown (built_up tree st.along.held) h note);
    }
  where
    is_built_lem : (v : ℕ) → (Branch g (all_edges walks) v ⊎ (v ≡ s)) ⊎ (v ≡ x) → Built g (all_edges walks) v
    is_built_lem v (inl (inl h)) = omega (arith, h)
    is_built_lem v (inl (inr p)) = subst (Built g (all_edges walks)) (sym p) r.begins
    is_built_lem v (inr p) = subst (Built g (all_edges walks)) (sym p) r.ends

-- the first three walks, once their insides are filed and noted
pub state_begin : {g : Graph} {t : Pointers} {place below : ℕ → ℕ} {c f d w u x : ℕ} {p q r : List Leg} → Tree g t → Child g t c
    → Passing g t c f t.root w → Passing g t c d t.root u → (f ≡ d → ⊥)
    → Climb g t (λ v. Above g t v w) u r x → Climb g t (λ v. v ≡ x) w q x → Climb g t (λ v. v ≡ t.root) (t.parent x) p t.root
    → Filed g t (λ v. OnWalks t x p q r v) (λ v. Ends t x v) place → Belows g t (λ v. OnWalks t x p q r v) place below
    → State g t (step d t.root r ∷ step f t.root q ∷ (leg (t.first x) x ∷ p) ∷ []) place below
state_begin tree h one other n m k l filed belows = record {
  along = along_begin tree h one other n m k (to_root tree h one other n m k l);
  filed = places_begin tree h one other n m k l filed;
  belows = belows_map (on_begun tree h one other n m k l) (begun_on tree h one other n m k l) belows;
}
