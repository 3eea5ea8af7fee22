-- What the answer over tables that are long enough says: they are filled, keep their lengths, and a vertex's number is its place in the order.
use mathlib.Core.Path.{◌≡◌, sym, ap, subst, ◌∙◌}
use mathlib.Core.List.{List}
use Prim.Native.Nat.{ℕ, ◌-◌, ◌/◌, ◌≤◌}
use native.Mathlib.Omega.{arith}
use lib.ListN.{length}
use Rattle.connectivity.specs.Plan.{Plan, Limits}
use Rattle.connectivity.specs.Admission.{Admitted}
use Rattle.connectivity.proofs.Lists.{Decides, decides_le, decides_and, decides_to}
use Rattle.graph.specs.declared.Answer.{Answer}
use Rattle.graph.specs.Admission.{told_by}
use Rattle.graph.specs.Marks.{read}
use Rattle.graph.proofs.Lent.{lent-enough}
use Rattle.incidence.specs.Parts.{Cleared}
use Rattle.numbers.specs.Tables.{numbers_to, owns_to, lasts_down, overs_down}
use Rattle.numbers.specs.Answered.{fits, Filled, Looked}
use Rattle.numbers.specs.Parts.{Room}
use Rattle.numbers.specs.Standing.{Ordering, Numbered}
use Rattle.numbers.proofs.Lengths.{numbers_long, owns_long, lasts_long, overs_long}
use Rattle.numbers.proofs.Numbering.{numbers_are}

-- there is room
abbrev pub RoomFor : Plan → List ℕ → List ℕ → List ℕ → List ℕ → List ℕ → Type 0
RoomFor p first order number last over = Room p.vertices (length p.ends / 2) (length first) (length order) (length number) (length last) (length over)

pub room_is : (p : Plan) (first order number last over : List ℕ) → Decides (fits p first order number last over) (RoomFor p first order number last over)
room_is p first order number last over = decides_to
    (decides_and (decides_le p.vertices (length first)) (decides_and (decides_le p.vertices (length order)) (decides_and (decides_le p.vertices (length number))
    (decides_and (decides_le p.vertices (length last)) (decides_le (length p.ends / 2) (length over))))))
    (λ h. record { marks = h.0; places = h.1.0; numbers = h.1.1.0; lasts = h.1.1.1.0; edges = h.1.1.1.1 })
    (λ r. (r.marks, (r.places, (r.numbers, (r.lasts, r.edges)))))

module _ {p : Plan} {first order number₀ last₀ over₀ number last over : List ℕ} where
  -- the parts, one after the other
  pub filled_by : {own blank start : List ℕ} → number ≡ numbers_to p.vertices order number₀ p.vertices → own ≡ numbers_to p.vertices order last₀ p.vertices
      → Cleared (length p.ends / 2) over₀ blank → start ≡ owns_to p.vertices p.ends first number blank (length p.ends / 2)
      → last ≡ lasts_down p.vertices p.ends first order own (p.vertices - 1) → over ≡ overs_down p.vertices p.ends first order number start (p.vertices - 1)
      → Filled p first order number₀ last₀ over₀ number last over
  filled_by {own} {blank} {start} a b c d e f = record {
    numbers = a;
    lasts = e ∙ ap (λ (l : List ℕ). lasts_down p.vertices p.ends first order l (p.vertices - 1)) b;
    blank = blank;
    cleared = c;
    overs = f ∙ ap (λ (l : List ℕ). overs_down p.vertices p.ends first order number l (p.vertices - 1)) d;
  }

  pub looked_filled : {most : Limits} {r : Answer} → Looked most p first order number₀ last₀ over₀ number last over r → Admitted most p
      → RoomFor p first order number₀ last₀ over₀ → Filled p first order number₀ last₀ over₀ number last over
  looked_filled {most} {r} l a room = l.filled (ap (λ (x : Answer). x.number) l.answer
      ∙ ap (λ x. (told_by x).number) (lent-enough {most = most} {p = p} (fits p first order number₀ last₀ over₀) a ((room_is p first order number₀ last₀ over₀).test room)))

  module _ (f : Filled p first order number₀ last₀ over₀ number last over) where
    pub number_long : length number ≡ length number₀
    number_long = ap length f.numbers ∙ numbers_long p.vertices order number₀ p.vertices

    pub last_long : length last ≡ length last₀
    last_long = ap length f.lasts ∙ lasts_long p.vertices p.ends first order (numbers_to p.vertices order last₀ p.vertices) (p.vertices - 1)
        ∙ numbers_long p.vertices order last₀ p.vertices

    pub over_long : length over ≡ length over₀
    over_long = ap length f.overs
        ∙ overs_long p.vertices p.ends first order number (owns_to p.vertices p.ends first number f.blank (length p.ends / 2)) (p.vertices - 1)
        ∙ owns_long p.vertices p.ends first number f.blank (length p.ends / 2) ∙ f.cleared.kept.long

    pub numbered : Ordering p.vertices order → p.vertices ≤ length number₀ → Numbered p.vertices order number
    numbered o l = record {
      numbers = λ k h. subst (λ (t : List ℕ). read t (read order k) ≡ k) (sym f.numbers) (numbers_are p.vertices order number₀ o l p.vertices (omega arith) k h);
    }
