-- What a look-up says, and what is kept of an answer.
use Rattle.std.specs.Prelude.{ℕ, length, Option, Some, None}
use Rattle.journal_core.specs.declared.rows.Key.{Key}
use Rattle.journal_core.specs.declared.rows.Use.TheVariants.{Unused, Real as RealUse, Hit, Walked, Faulted}
use Rattle.journal_core.specs.declared.asks.Ask.{Ask}
use Rattle.journal_core.specs.declared.asks.Found.{Found}
use Rattle.journal_core.specs.declared.asks.Found.TheVariants.{Real, Fault, Stop}
use Rattle.journal_core.specs.Rows.{JournalView}
use Rattle.journal_core.specs.Turns.{next_turn}
use Rattle.journal_core.specs.Choice.{IsPermitted, NonePermits}
use Rattle.translator.specs.declared.lists.Lists.{Lists}
use Rattle.translator.specs.Fits.{with_fill_in}

-- the fill of the ask that stands, with the page to which it leads where it permits the ask
abbrev pub HitSays : JournalView → ℕ → Ask → Option (ℕ × ℕ) → Type 0
HitSays j t ask (Some x) = IsPermitted (next_turn j t) (length j.rows.fills) ask x.0 x.1
HitSays j t ask None = NonePermits (next_turn j t) (length j.rows.fills) ask

abbrev pub with_key : Option Key → ℕ → Lists → ℕ → Lists
with_key None i s t = s
with_key (Some key) i s t = with_fill_in key i s t

-- of an answer by a walk to a page its fill is kept, of any other nothing
abbrev pub after_answer : Option Key → Found → Lists → ℕ → Lists
after_answer key (Real a (Walked i b)) s t = with_key key i s t
after_answer key (Real a (RealUse b)) s t = s
after_answer key (Real a (Hit i b)) s t = s
after_answer key (Real a (Faulted first count)) s t = s
after_answer key (Real a Unused) s t = s
after_answer key (Fault cause used) s t = s
after_answer key (Stop name value) s t = s
