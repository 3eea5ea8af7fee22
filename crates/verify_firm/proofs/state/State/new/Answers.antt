-- `State::new` meets its contract: no mark, no row, no step.
use mathlib.Core.Path.{◌≡◌, refl, sym, subst, ◌∙◌}
use mathlib.Core.Logic.{inl}
use mathlib.Core.Bool.{Bool, true, false, not, ◌&&◌, ◌||◌}
use mathlib.Core.List.Memᴰ.{not-nil as not_in}
use mathlib.Core.List.{List, []}
use Prim.Native.Nat.{ℕ}
use native.Mathlib.Omega.{arith}
use lib.ListN.{get_or, replicate, length-replicate}
use Rattle.connectivity.specs.Lists.{Distinct, mem}
use Rattle.connectivity.specs.Plan.{limits}
use Rattle.connectivity.specs.Graph.{Graph, is_edge}
use Rattle.graph.proofs.Tally.{zeros}
use Rattle.verify_firm.specs.declared.state.Run.{Run}
use Rattle.verify_firm.specs.Marks.{Lies, nothing, Holds}
use Rattle.verify_firm.proofs.state.State.new.Goals as goal

zero_mark : (v : ℕ) → get_or (replicate {A = ℕ} limits.vertices 0) v 0 ≡ 0
zero_mark v = zeros limits.vertices v

empty : (g : Graph) (list : List ℕ) (run : Run) → run ≡ record { first = 0; start = 0; at = 0; fresh = true }
    → Holds limits g list [] [] 0 (replicate {A = ℕ} limits.vertices 0) (replicate {A = ℕ} limits.vertices 0) 0 run 0 0
empty g list run p =
    subst (λ (x : Run). Holds limits g list [] [] 0 (replicate {A = ℕ} limits.vertices 0) (replicate {A = ℕ} limits.vertices 0) 0 x 0 0) (sym p) record {
      marks_length = length-replicate {A = ℕ} limits.vertices 0;
      left_length = length-replicate {A = ℕ} limits.vertices 0;
      degrees = λ v h. zero_mark v;
      few = λ v. omega (arith, zero_mark v);
      steps_done = refl;
      laid = nothing;
      lies = Lies.no_row;
      once = Distinct.no_member;
      walks = λ h. absurd (omega (arith, h));
      fresh = record { once = Distinct.no_member; new = λ v i. absurd (not_in i) };
      lefts = λ q. record { mark = λ k h. absurd (omega (arith, h)); found = λ v. inl (zero_mark v) };
      stands = record {
        between = λ h. absurd (omega (arith, h));
        simple = λ h. absurd (omega (arith, h));
        steps = λ h. absurd (omega (arith, h));
      };
      rows = λ k h. absurd (omega (arith, h));
    }

none_used : (b : Bool) (e : ℕ) → b ≡ (b && not (mem e [] || mem e []))
unfolding mem
none_used true e = refl
none_used false e = refl

pub returns : goal.returns
returns c g list used long kept =
    record { used_length = long; marked = λ e h. kept e h ∙ none_used (is_edge g e) e; holds = empty g list c.begins.result c.begins.ensures }
