-- Walks that begin with what is kept, as relations on the readings that they take.
use Rattle.std.specs.Prelude.{◌≡◌, ℕ, List, [], ◌∷◌, ◌++◌, Option, Some, None, slice_get, option_to_list}
use Rattle.journal_core.specs.declared.rows.ReadRow.{ReadRow}
use Rattle.journal_core.specs.declared.rows.FillRow.{FillRow}
use Rattle.journal_core.specs.declared.rows.KeyKind.{KeyKind}
use Rattle.journal_core.specs.declared.rows.KeyKind.TheVariants.{ProcessDir, PartDir}
use Rattle.journal_core.specs.declared.asks.Ask.{Ask}
use Rattle.journal_core.specs.declared.asks.Place.{Place}
use Rattle.journal_core.specs.declared.asks.Place.TheVariants.{Real, GuestReal, Space, Segment}
use Rattle.journal_core.specs.declared.walks.NestResult.{NestResult}
use Rattle.journal_core.specs.declared.walks.Stage.{Stage}
use Rattle.journal_core.specs.declared.walks.Stage.TheVariants.{SecondWord, PartEntry, PartTable, ProcessEntry, ProcessTable, Over}
use Rattle.journal_core.specs.declared.walks.TrailItem.{TrailItem}
use Rattle.journal_core.specs.declared.walks.TrailItem.TheVariants.{Old, New}
use Rattle.journal_core.specs.Places.{place_of}
use Rattle.journal_core.specs.Rights.{first_denial}
use Rattle.journal_core.specs.Walk.{Task, next, task_of, start_of}
use Rattle.journal_core.specs.Following.{IsRead, EndsAt, IsNew, sought_at}
use Rattle.journal_core.specs.Turns.{Turn}
use Rattle.journal_core.specs.Standing.{IsDirectoryKind, fill_reads, IsDeepest, IsStandingPage}

-- what a walk may begin with: the answers of what keeps walks, and the rows that they name
pub record KeptAnswers : Type 0 where
  pub reads : List ReadRow
  pub fills : List FillRow
  -- the directory of a kind, for a partition, a process and an address
  pub directory : KeyKind → ℕ → ℕ → ℕ → Option ℕ
  -- the guest page for a partition and a guest real address
  pub page : ℕ → ℕ → Option ℕ

-- the numbers of the readings of a fill, if there is one
abbrev pub numbers_in : Option FillRow → List ℕ
numbers_in None = []
numbers_in (Some f) = fill_reads f

abbrev pub numbers_of : List FillRow → Option ℕ → List ℕ
numbers_of fills None = []
numbers_of fills (Some i) = numbers_in (slice_get fills i)

-- a walk of a partition's tree begins with the guest page, else with the directory
abbrev pub kept_reads : List FillRow → Option ℕ → Option ℕ → List ℕ
kept_reads fills (Some i) directory = numbers_of fills (Some i)
kept_reads fills None directory = numbers_of fills directory

-- The numbers that a walk takes next in place of reading: those that it still owes, and where the walk of a partition's
-- tree begins and none is owed, those that are kept for it.
abbrev pub due : KeptAnswers → Task → Stage → List ℕ → List ℕ
due a k s (i ∷ is) = i ∷ is
due a k (SecondWord at) [] = []
due a k (PartEntry goal gra at) [] = kept_reads a.fills (a.page k.lpid gra) (a.directory PartDir k.lpid 0 gra)
due a k (PartTable goal gra n) [] = []
due a k (ProcessEntry at) [] = []
due a k (ProcessTable n at) [] = []
due a k (Over o) [] = []

-- a finished walk from where it stands, which takes what is due and reads the rest anew
abbrev pub ResumesFrom : (ℕ → Option ℕ) → ℕ → KeptAnswers → Task → Stage → List ℕ → List TrailItem → NestResult → Type 0
ResumesFrom word moment a k s owed [] out = (due a k s owed ≡ []) × EndsAt word s out
ResumesFrom word moment a k s owed (New r ∷ items) out =
    (due a k s owed ≡ []) × IsRead k s r × IsNew word moment (sought_at k s) r × ResumesFrom word moment a k (next k s r.value) [] items out
ResumesFrom word moment a k s owed (Old i ∷ items) out =
    (rest : List ℕ) × (r : ReadRow) × (due a k s owed ≡ i ∷ rest) × (slice_get a.reads i ≡ Some r) × IsRead k s r × ResumesFrom word moment a k (next k s r.value) rest items out

-- what the walk of an ask at a place begins with: the readings of the process's directory
abbrev pub owed_at : KeptAnswers → Place → List ℕ
owed_at a (Real at) = []
owed_at a (GuestReal lpid at) = []
owed_at a (Space lpid pid at) = numbers_of a.fills (a.directory ProcessDir lpid pid at)
owed_at a Segment = []

-- the walk of an ask that uses what is kept
abbrev pub Resumed : (ℕ → Option ℕ) → ℕ → KeptAnswers → Ask → List TrailItem → NestResult → Type 0
Resumed word moment a ask items out = ResumesFrom word moment a (task_of (first_denial ask) ask) (start_of (first_denial ask) ask) (owed_at a (place_of ask)) items out

-- nothing is kept
pub record KnowsNothing (a : KeptAnswers) : Type 0 where
  pub no_directory : (kind : KeyKind) (lpid pid sought : ℕ) → IsDirectoryKind kind → a.directory kind lpid pid sought ≡ None
  pub no_page : (lpid gra : ℕ) → a.page lpid gra ≡ None

-- exactly what stands is kept: of directories of either kind the deepest, and the guest page
pub record KnowsStanding (v : Turn) (c : ℕ) (a : KeptAnswers) : Type 0 where
  pub reads : a.reads ≡ v.rows.reads
  pub fills : a.fills ≡ v.rows.fills
  pub directories : (kind : KeyKind) (lpid pid sought : ℕ) → IsDirectoryKind kind → IsDeepest v c kind lpid pid sought (a.directory kind lpid pid sought)
  pub pages : (lpid gra : ℕ) → IsStandingPage v c lpid gra (a.page lpid gra)

-- the readings of a walk's items
abbrev pub readings : List ReadRow → List TrailItem → List ReadRow
readings reads [] = []
readings reads (Old i ∷ items) = option_to_list (slice_get reads i) ++ readings reads items
readings reads (New r ∷ items) = r ∷ readings reads items
