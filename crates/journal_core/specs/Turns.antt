-- A thread before a step of a journal, and an ask of it.
use Rattle.std.specs.Prelude.{ℕ, ◌≤◌, length, Option}
use Rattle.journal_core.specs.declared.asks.Ask.{Ask}
use Rattle.journal_core.specs.Rows.{Rows, JournalView}

-- how many fills and reads there are before an answer, or after it
pub record Mark : Type 0 where
  pub fills : ℕ
  pub reads : ℕ

-- no row was taken away
pub record NoFewer (before after : Mark) : Type 0 where
  pub fills : before.fills ≤ after.fills
  pub reads : before.reads ≤ after.reads

-- a thread before a step: the rows of the journal and the floor of its fills, the thread, and the step's number
pub record Turn : Type 0 where
  pub rows : Rows
  pub floor : ℕ
  pub thread : ℕ
  pub step : ℕ

-- an ask in a turn, over storage whose doublewords stand so before the step, from so many fills and reads on
pub record Query : Type 0 where
  pub turn : Turn
  pub word : ℕ → Option ℕ
  pub before : Mark
  pub ask : Ask

abbrev pub turn_of : Rows → ℕ → ℕ → ℕ → Turn
turn_of rows floor t n = record { rows = rows; floor = floor; thread = t; step = n }

abbrev pub query_of : Turn → (ℕ → Option ℕ) → Mark → Ask → Query
query_of v word before ask = record { turn = v; word = word; before = before; ask = ask }

-- a thread of a journal before a step
abbrev pub turn_in : JournalView → ℕ → ℕ → Turn
turn_in j t n = turn_of j.rows j.floor t n

-- a thread of a journal before the step that is made next
abbrev pub next_turn : JournalView → ℕ → Turn
next_turn j t = turn_in j t (length j.rows.steps)

-- the turn, seen in a journal with these rows
abbrev pub turn_later : Turn → Rows → Turn
turn_later v rows = turn_of rows v.floor v.thread v.step

-- the ask, seen in a journal with these rows
abbrev pub query_later : Query → Rows → Query
query_later q rows = query_of (turn_later q.turn rows) q.word q.before q.ask

-- how many fills and reads a journal has
abbrev pub mark_of : Rows → Mark
mark_of rows = record { fills = length rows.fills; reads = length rows.reads }
