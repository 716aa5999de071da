-- The words of a command, with the number of the first that is wrong or missing.
use Rattle.std.specs.Prelude.{◌≡◌, ℕ, zero, suc, ◌+◌, ◌<◌, ◌≤◌, nat_lt, ◌==◌, List, [], ◌∷◌, ◌++◌, length, take, drop, slice_index, Bool, true, false, not, ◌&&◌, Option, Some, None, option_map, Result, Ok, Err, String, string_bytes, if◌then◌else◌, codes}
use Rattle.std.specs.Str.{bytes_eq}
use Rattle.std.specs.declared.alloc.Global.{Global}
use Rattle.number_text.specs.Number.{number_up_to}
use Rattle.number_text.specs.Hex.{short_hex}
use Rattle.radix_top.specs.declared.command.Command.{Command}
use Rattle.radix_top.specs.declared.command.Command.TheVariants.{Run, Asm, Dis}
use Rattle.radix_top.specs.declared.guest_words.GuestWord.{GuestWord}
use Rattle.radix_top.specs.declared.command.Options.{Options}

abbrev pub Text : Type 0
Text = String Global

abbrev pub is_word : Text → List ℕ → Bool
is_word w text = bytes_eq (string_bytes w) text

-- the bytes of the word with a number
abbrev pub word_at : List Text → ℕ → List ℕ
word_at [] p = []
word_at (w ∷ ws) zero = string_bytes w
word_at (w ∷ ws) (suc p) = word_at ws p

abbrev pub or_fault : {A : Type 0} → Option A → ℕ → Result A ℕ
or_fault (Some x) place = Ok x
or_fault None place = Err place

infixl 10 ◌>>=◌
abbrev pub ◌>>=◌ : {A B : Type 0} → Result A ℕ → (A → Result B ℕ) → Result B ℕ
(Ok x) >>= f = f x
(Err e) >>= f = Err e

-- the place of the last `@` among the first so many bytes
abbrev pub last_at : List ℕ → ℕ → Option ℕ
last_at bytes zero = None
last_at bytes (suc n) = if slice_index bytes n == 64 then Some n else last_at bytes n

-- a guest that the word with this number names: so many of its bytes are the file's name, and this is its address
abbrev pub guest : ℕ → ℕ → ℕ → GuestWord
guest place name_len at = record { place = place; name_len = name_len; at = at }

-- a word cut at its last `@`, before which stands a name, and behind which an address of one to sixteen hexadecimal digits
abbrev pub cut_at : ℕ → List ℕ → Option ℕ → Option GuestWord
cut_at place bytes None = None
cut_at place bytes (Some zero) = None
cut_at place bytes (Some (suc n)) = option_map (guest place (suc n)) (short_hex (drop (suc n + 1) bytes))

-- FILE@HEX
abbrev pub guest_of : ℕ → Text → Option GuestWord
guest_of place w = cut_at place (string_bytes w) (last_at (string_bytes w) (length (string_bytes w)))

-- the name of a guest's file
abbrev pub guest_name : List Text → GuestWord → List ℕ
guest_name words g = take g.name_len (word_at words g.place)

abbrev pub options_with : Bool → Bool → List GuestWord → Options
options_with trace walks guests = record { trace = trace; walks = walks; guests = guests }

-- a command without options
abbrev pub no_options : Options
no_options = options_with false false []

-- the word asks for a trace, which no word before it did
abbrev pub asks_for_trace : Options → Text → Bool
asks_for_trace before w = is_word w (codes "--trace") && not before.trace

-- the word asks for the walks, which no word before it did
abbrev pub asks_for_walks : Options → Text → Bool
asks_for_walks before w = is_word w (codes "--walks") && not before.walks

-- the word announces a guest, and at most three are there
abbrev pub announces_guest : Options → Text → Bool
announces_guest before w = is_word w (codes "--guest") && nat_lt (length before.guests) 4

abbrev pub with_trace : Options → Options
with_trace before = options_with true before.walks before.guests

abbrev pub with_walks : Options → Options
with_walks before = options_with before.trace true before.guests

abbrev pub with_guest : Options → GuestWord → Options
with_guest before g = options_with before.trace before.walks (before.guests ++ g ∷ [])

-- the options that words are, the first of which has this number, behind those that were there before
abbrev pub options_of : ℕ → Options → List Text → Result Options ℕ
options_of place before [] = Ok before
options_of place before (w ∷ []) =
    if asks_for_trace before w then Ok (with_trace before)
    else if asks_for_walks before w then Ok (with_walks before)
    else if announces_guest before w then Err (place + 1)
    else Err place
options_of place before (w ∷ v ∷ ws) =
    if asks_for_trace before w then options_of (place + 1) (with_trace before) (v ∷ ws)
    else if asks_for_walks before w then options_of (place + 1) (with_walks before) (v ∷ ws)
    else if announces_guest before w then (or_fault (guest_of (place + 1) v) (place + 1) >>= λ g. options_of (place + 2) (with_guest before g) ws)
    else Err place

-- N is 0 to 1,048,576
abbrev pub count_of : Text → Option ℕ
count_of w = number_up_to 1048576 (string_bytes w)

-- run IMAGE SCHEDULE N and its options, from its word 1 on
abbrev pub run_of : List Text → Result Command ℕ
run_of [] = Err 1
run_of (image ∷ []) = Err 2
run_of (image ∷ schedule ∷ []) = Err 3
run_of (image ∷ schedule ∷ count ∷ more) = or_fault (count_of count) 3 >>= λ n. options_of 4 no_options more >>= λ options. Ok (Run n options)

-- a command of one word more, from its word 1 on
abbrev pub one_file : Command → List Text → Result Command ℕ
one_file command [] = Err 1
one_file command (file ∷ []) = Ok command
one_file command (file ∷ other ∷ more) = Err 2

-- the command that the words are, or the number of the first wrong or missing word
abbrev pub command_of : List Text → Result Command ℕ
command_of [] = Err 0
command_of (w ∷ ws) =
    if is_word w (codes "run") then run_of ws
    else if is_word w (codes "asm") then one_file Asm ws
    else if is_word w (codes "dis") then one_file Dis ws
    else Err 0

-- a guest's word is there, and an `@` stands behind the name in it
abbrev pub IsCut : List Text → GuestWord → Type 0
IsCut words g = (g.place < length words) × (g.name_len < length (word_at words g.place)) × (slice_index (word_at words g.place) g.name_len ≡ 64)

abbrev pub AreCut : List Text → List GuestWord → Type 0
AreCut words [] = Unit {0}
AreCut words (g ∷ gs) = IsCut words g × AreCut words gs

-- What a caller needs of a command's words: they are long enough, a run has at most the most steps, and its guests' words are cut.
abbrev pub IsWellNamed : List Text → Command → Type 0
IsWellNamed words (Run count options) = (3 < length words) × (count ≤ 1048576) × AreCut words options.guests
IsWellNamed words Asm = 1 < length words
IsWellNamed words Dis = 1 < length words
