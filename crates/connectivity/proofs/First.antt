-- A three-edge-connected graph has the first three walks: an edge between x and r has two others beside it, the doors, that lead from x to what is reached
-- from r without passing through x; the paths from two doors to r, the second only as far as it meets the first, and the edge are the three.
use mathlib.Core.Path.{◌≡◌, refl, sym, ap, ◌∙◌, subst}
use mathlib.Core.Logic.{◌⊎◌, inl, inr}
use mathlib.Core.List.Memᴰ
use mathlib.Core.List.Memᴰ.{append_cases as in-cases}
use mathlib.Core.List.Memᴰ.{append_right as in_right}
use mathlib.Core.List.Memᴰ.{cases_cons as in-cons}
use mathlib.Core.List.Memᴰ.{eq_of_singleton}
use mathlib.Core.List.Memᴰ.{head as first}
use mathlib.Core.List.Memᴰ.{not-nil as not_in}
use mathlib.Core.List.Memᴰ.{tail as later}
use mathlib.Core.List.{List, [], ◌∷◌, ◌++◌, append_assoc, Memᴰ as In}
use Prim.Native.Nat.{ℕ, ◌≤◌}
use native.Mathlib.Omega.{arith}
use native.Mathlib.Decide.{ℕ_discrete}
use lib.ListN.{length}
use Rattle.connectivity.specs.Lists.{Distinct, no_member, one}
use Rattle.connectivity.specs.Graph.{Graph, Edge, Joins}
use Rattle.connectivity.specs.Reach.{Reach, here, over, Without, ThreeEdgeConnected}
use Rattle.connectivity.specs.Walk.{Leg, Walk, froms, all_edges}
use Rattle.connectivity.specs.Mader.{Theta}
use Rattle.connectivity.proofs.Lists.{in_dec}
use Rattle.connectivity.proofs.Reach.{joins_sym, joins_vertex}
use Rattle.connectivity.proofs.Through.{Through, stay, through_on}
use Rattle.connectivity.proofs.Distinct.{join_distinct}
use Rattle.connectivity.proofs.Legs.{leg, final_snoc}
use Rattle.connectivity.proofs.Fresh.{froms_snoc}
use Rattle.connectivity.proofs.Theta.{theta_from}
use Rattle.connectivity.proofs.Once.{theta_once}
use Rattle.connectivity.proofs.Shorten.{Path, path_new, edge_path, path_edge, Parted, part_at, Way, enter, back}

-- The doors of x.

-- an edge other than c from x to what is reached from r without passing through x
record Door (g : Graph) (x r c e : ℕ) : Type 0 where
  to : ℕ
  joins : Joins g e x to
  off : to ≡ x → ⊥
  reached : Through g (Edge g) (λ v. v ≡ x → ⊥) r to
  other : e ≡ c → ⊥

module _ {g : Graph} {x r c : ℕ} (t : ThreeEdgeConnected g) (j : Joins g c r x) (apart : r ≡ x → ⊥) where
  -- from what is reached there is no way to x that misses c and the doors
  shut : (cut : List ℕ) → In c cut → ((e : ℕ) → Door g x r c e → In e cut) → {u w : ℕ} → Reach g (Without cut) u w → w ≡ x
      → Through g (Edge g) (λ v. v ≡ x → ⊥) r u → (u ≡ x → ⊥) → ⊥
  shut cut i f here p k n = n p
  shut cut i f (over {u} {v} e l m q) p k n = elim (ℕ_discrete v x) [
    | yes h ↦ l (f e (record {
      to = u;
      joins = subst (λ y. Joins g e y u) h (joins_sym m);
      off = n;
      reached = k;
      other = λ o. l (Memᴰ.cast o i);
    }))
    | no h ↦ shut cut i f q p (through_on k m.edge n m) h
  ]

  -- so no cut of two edges has c and all doors
  doors_cut : (cut : List ℕ) → length cut ≤ 2 → In c cut → ((e : ℕ) → Door g x r c e → In e cut) → ⊥
  doors_cut cut h i f = shut cut i f (t.still cut h r x (joins_vertex j) (joins_vertex (joins_sym j))) refl stay apart

  -- there is a door
  one_door : ((e : ℕ) → Door g x r c e → ⊥) → ⊥
  one_door f = doors_cut (c ∷ []) (omega arith) (first refl) (λ e k. absurd (f e k))

  -- and another
  two_doors : ((d e : ℕ) → Door g x r c d → Door g x r c e → d ≡ e) → ⊥
  two_doors f = one_door (λ d k. doors_cut (c ∷ d ∷ []) (omega arith) (first refl) (λ e q. later (first (f e d q k))))

-- The three walks.

-- the first three walks
pub record Three (g : Graph) : Type 0 where
  pub a : ℕ
  pub b : ℕ
  pub walks : List (List Leg)
  pub theta : Theta g a b walks
  pub once : Distinct (all_edges walks)

module _ {g : Graph} {x r c d e : ℕ} (j : Joins g c r x) (apart : r ≡ x → ⊥) (door : Door g x r c d) (next : Door g x r c e)
    (differ : d ≡ e → ⊥) where
  -- the path from the first door to r
  abbrev New : ℕ → Type 0
  New v = (v ≡ x → ⊥) × (v ≡ r → ⊥)

  to_r : Way g (Edge g) New (λ v. v ≡ r) door.to
  to_r = enter (new door.to door.off) (back new refl door.reached)
    where
      new : (v : ℕ) → (v ≡ x → ⊥) → (v ≡ r) ⊎ New v
      new v h = elim (ℕ_discrete v r) [ yes p ↦ inl p | no n ↦ inr (h, n) ]

  line : Path g (Edge g) New door.to to_r.legs r
  line = subst (Path g (Edge g) New door.to to_r.legs) to_r.ends to_r.path

  abbrev on_line : List ℕ
  on_line = froms to_r.legs ++ (r ∷ [])

  -- and from the second to where it meets the first
  abbrev Beside : ℕ → Type 0
  Beside v = (v ≡ x → ⊥) × (In v on_line → ⊥)

  to_line : Way g (Edge g) Beside (λ v. In v on_line) next.to
  to_line = enter (new next.to next.off) (back new (in_right (froms to_r.legs) (first refl)) next.reached)
    where
      new : (v : ℕ) → (v ≡ x → ⊥) → In v on_line ⊎ Beside v
      new v h = elim (in_dec v on_line) [ yes i ↦ inl i | no n ↦ inr (h, n) ]

  abbrev y : ℕ
  y = to_line.to

  parted : Parted g (Edge g) New door.to to_r.legs r y
  parted = part_at line (elim (in-cases (froms to_r.legs) to_line.ends) [ inl i ↦ inl i | inr i ↦ inr (eq_of_singleton i) ])

  -- the three walks, of which the first two are a round
  walk_one : Walk g y (parted.high ++ (leg c r ∷ [])) x
  walk_one = path_edge parted.path_high j

  walk_two : Walk g x (leg d x ∷ parted.low) y
  walk_two = edge_path door.joins parted.path_low

  walk_three : Walk g x (leg e x ∷ to_line.legs) y
  walk_three = edge_path next.joins to_line.path

  whole : froms parted.low ++ froms (parted.high ++ (leg c r ∷ [])) ≡ on_line
  whole =
      ap (λ (l : List ℕ). froms parted.low ++ l) (froms_snoc parted.high (leg c r))
      ∙ sym (append_assoc (froms parted.low) (froms parted.high) (r ∷ []))
      ∙ ap (λ (l : List ℕ). l ++ (r ∷ [])) (sym parted.parts)

  round : Distinct (x ∷ (froms parted.low ++ froms (parted.high ++ (leg c r ∷ []))))
  round = subst (λ (l : List ℕ). Distinct (x ∷ l)) (sym whole) (one off (join_distinct (froms to_r.legs) to_r.once (one not_in no_member)
      (λ v i k. (path_new line i).1 (eq_of_singleton k))))
    where
      off : In x on_line → ⊥
      off i = elim (in-cases (froms to_r.legs) i) [ inl k ↦ (path_new line k).0 refl | inr k ↦ apart (sym (eq_of_singleton k)) ]

  beside : (v : ℕ) → In v (froms to_line.legs) → In v (x ∷ (froms parted.low ++ froms (parted.high ++ (leg c r ∷ [])))) → ⊥
  beside v i k = let n = path_new to_line.path i in
      elim (in-cons k) [ inl p ↦ n.0 p | inr m ↦ n.1 (subst (λ (l : List ℕ). In v l) whole m) ]

  three : Three g
  three = record {
    a = x;
    b = y;
    walks = (leg e x ∷ to_line.legs) ∷ (leg d x ∷ parted.low) ∷ (parted.high ++ (leg c r ∷ [])) ∷ [];
    theta = theta_from walk_one walk_two walk_three round to_line.once beside;
    once = theta_once walk_one walk_two round walk_three to_line.once beside
        (λ p. door.other (p ∙ final_snoc parted.high (leg c r)))
        (λ p. differ (sym p))
        (λ p. next.other (p ∙ final_snoc parted.high (leg c r)));
  }

-- a way between different vertices has an edge between different vertices
crossing : {g : Graph} {live : ℕ → Type 0} {u v : ℕ} → Reach g live u v → (u ≡ v → ⊥) → (c : ℕ) × (r : ℕ) × (x : ℕ) × Joins g c r x × (r ≡ x → ⊥)
crossing here n = absurd (n refl)
crossing (over {u} {v} e l j k) n = elim (ℕ_discrete u v) [ yes p ↦ crossing k (λ q. n (p ∙ q)) | no m ↦ (e, u, v, j, m) ]

pub first_three : {g : Graph} → ThreeEdgeConnected g → (Three g → ⊥) → ⊥
first_three t n =
    let (u, v, hu, hv, differ) = t.two in
    let (c, r, x, j, apart) = crossing (t.still [] (omega arith) u v hu hv) differ in
    two_doors t j apart (λ d e k l. elim (ℕ_discrete d e) [ yes p ↦ p | no m ↦ absurd (n (three j apart k l m)) ])
