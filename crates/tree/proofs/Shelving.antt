-- The places alone tell what is built and what is a branch; they go on telling it when a vertex becomes a branch.
use mathlib.Core.Path.{◌≡◌, refl, sym, subst}
use mathlib.Core.Logic.{◌⊎◌, inl, inr}
use Prim.Native.Nat.{ℕ, ◌≤◌}
use native.Mathlib.Omega.{arith}
use native.Mathlib.Decide.{dec_le}
use Rattle.connectivity.specs.Graph.{Graph}
use Rattle.tree.specs.Tree.{Pointers, Tree}
use Rattle.tree.specs.Filed.{Filed, Marked, already, parted, Belows}
use Rattle.tree.specs.Links.{Shelved}
use Rattle.tree.proofs.Splitting.{filed_map}
use Rattle.tree.proofs.State.{filed_marked, belows_marked, belows_map}

module _ {g : Graph} {t : Pointers} {B K : ℕ → Type 0} {place : ℕ → ℕ} (f : Filed g t B K place) where
  pub filed_built : {v : ℕ} → B v → 1 ≤ place v
  filed_built {v} b = elim (dec_le 1 (place v)) [ yes h ↦ h | no n ↦ absurd (f.off v (omega (arith, n)) b) ]

  pub filed_branch : {v : ℕ} → B v → K v → place v ≡ 1
  filed_branch {v} b k = elim (dec_le 2 (place v)) [ yes h ↦ absurd (f.plain v h k) | no n ↦ omega (arith, n, filed_built b) ]

  pub filed_own : ((v : ℕ) → K v → B v) → Shelved g t place
  filed_own kb = filed_map (λ v b. filed_built b) (λ v h. f.built v h) (λ v k. filed_branch (kb v k) k) (λ v p. f.branch v p) f

-- one word for a branch or another
pub marked-map : {g : Graph} {t : Pointers} {K L : ℕ → Type 0} {place after : ℕ → ℕ} {v : ℕ} → (K v → L v) → Marked g t K place after v → Marked g t L place after v
marked-map f (already k e) = already (f k) e
marked-map f (parted a b s) = parted a b s

-- v has become a branch
module _ {g : Graph} {t : Pointers} {place after : ℕ → ℕ} {v : ℕ} (tree : Tree g t) (f : Shelved g t place) (h : 1 ≤ place v)
    (m : Marked g t (λ y. place y ≡ 1) place after v) where
  now : Filed g t (λ y. 1 ≤ place y) (λ y. (place y ≡ 1) ⊎ (y ≡ v)) after
  now = filed_marked tree f m

  still : (y : ℕ) → (place y ≡ 1) ⊎ (y ≡ v) → 1 ≤ place y
  still y (inl p) = omega (arith, p)
  still y (inr p) = subst (λ (x : ℕ). 1 ≤ place x) (sym p) h

  pub marked_shelved : Shelved g t after
  marked_shelved = filed_own now still

  pub marked_on : {y : ℕ} → 1 ≤ place y → 1 ≤ after y
  marked_on b = filed_built now b

  pub marked_off : {y : ℕ} → 1 ≤ after y → 1 ≤ place y
  marked_off {y} b = now.built y b

  pub marked_branch : after v ≡ 1
  marked_branch = filed_branch now h (inr refl)

  pub marked_belows : {below : ℕ → ℕ} → Belows g t (λ y. 1 ≤ place y) place below → Belows g t (λ y. 1 ≤ after y) after below
  marked_belows b = belows_map (λ y. marked_on) (λ y. marked_off) (belows_marked tree f m b)
