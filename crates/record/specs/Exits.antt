-- What the way out of a link is found by: the numbers below the link, the test at an edge, and the edges at a vertex.
use Rattle.std.specs.Prelude.{◌≡◌, ℕ, suc, ◌+◌, ◌-◌, ◌<◌, ◌≤◌, List, length, ◌≢◌}
use Rattle.graph.specs.Marks.{read}
use Rattle.graph.specs.Ends.{far_end}
use Rattle.record.specs.Ways.{Ended, upper_end}

-- what `range_below` asks: the child that is noted below the bottom has its numbers
pub record Ranging (number last below : List ℕ) (bottom : ℕ) : Type 0 where
  pub room : bottom < length below
  pub numbered : (c : ℕ) → read below bottom ≡ suc c → c < length number
  pub lasting : (c : ℕ) → read below bottom ≡ suc c → c < length last

-- the numbers at and below the child that `next` is one more than; none for 0
pub record Under (number last : ℕ → ℕ) (next from to : ℕ) : Type 0 where
  pub none : next ≡ 0 → to < from
  pub some : (c : ℕ) → next ≡ suc c → (from ≡ number c) × (to ≡ last c)

-- an edge whose upper end lies at a place and whose lower end has a number: that place is not the own one, or the number is one of those
pub data Leads (place own low from to : ℕ) : Type 0 where
  away : (place ≢ own) → Leads place own low from to
  hangs : from ≤ low → low ≤ to → Leads place own low from to

-- the edge f passes the test
abbrev pub Passes : List ℕ → List ℕ → List ℕ → ℕ → ℕ → ℕ → ℕ → Type 0
Passes ends number places f own from to =
    Leads (read places (upper_end ends number f)) own (read number (far_end ends f (upper_end ends number f))) from to

-- what `is_exit` asks: f is an edge, and both of its ends stand in the tables
pub record Testing (ends number places : List ℕ) (f : ℕ) : Type 0 where
  pub ended : Ended ends number f
  pub upper : upper_end ends number f < length places
  pub lower : far_end ends f (upper_end ends number f) < length number

-- what `exit_at` asks of an edge
pub record Reading (ends number places over : List ℕ) (e : ℕ) : Type 0 where
  pub long : e < length over
  pub test : 1 ≤ read over e → Testing ends number places (read over e - 1)

-- what `exit_at` asks: v and each edge of its group stand in the tables
pub record Looking (ends incident begins number places over : List ℕ) (v : ℕ) : Type 0 where
  pub room : v + 1 < length begins
  pub inside : read begins (v + 1) ≤ length incident
  pub own : v < length places
  pub each : (k : ℕ) → read begins v ≤ k → k < read begins (v + 1) → Reading ends number places over (read incident k)

-- an edge of the group of v that is not built
pub record Free (incident begins over : ℕ → ℕ) (v k : ℕ) : Type 0 where
  pub from : begins v ≤ k
  pub to : k < begins (v + 1)
  pub new : 1 ≤ over (incident k)

-- 0, and no edge at v that is not built passes the test, or what stands in `over` at one that does
pub record ExitAt (ends incident begins number places over : List ℕ) (v from to r : ℕ) : Type 0 where
  pub none : r ≡ 0 → (k : ℕ) → Free (read incident) (read begins) (read over) v k
      → Passes ends number places (read over (read incident k) - 1) (read places v) from to → ⊥
  pub some : (r ≢ 0) → (k : ℕ) × Free (read incident) (read begins) (read over) v k × (r ≡ read over (read incident k))
      × Passes ends number places (read over (read incident k) - 1) (read places v) from to

-- of two ends, with x and y behind them, the one with less
pub record Chosen (x y a b r : ℕ) : Type 0 where
  pub top : x ≤ y → r ≡ a
  pub bottom : y < x → r ≡ b
