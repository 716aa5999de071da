-- What is written for an entry is read as this entry.
use Rattle.std.proofs.Common.{◌≡◌, ℕ, ◌%◌, ◌^◌, ◌<◌, refl, arith, Bool, true, false}
use Rattle.ppc_bits.specs.Bits.{bit, is_set, field_of}
use Rattle.table_formats.specs.declared.entries.Entry.{Entry}
use Rattle.table_formats.specs.declared.entries.Entry.TheVariants.{Invalid, Directory, Leaf}
use Rattle.table_formats.specs.Entries.{base_of, size_of, page_of, entry_of, word_of}
use Rattle.table_formats.specs.Fitting.{Fits}

as_directory : (w base size : ℕ) → field_of 64 w 0 0 ≡ 1 → bit 64 w 1 ≡ 0 → base_of w ≡ base → size_of w ≡ size → entry_of w ≡ Directory base size
unfolding entry_of
as_directory w base size v l b s = rw (v, l, b, s) refl

as_leaf : (w page att eaa : ℕ) (r c : Bool) → field_of 64 w 0 0 ≡ 1 → bit 64 w 1 ≡ 1 → page_of w ≡ page → is_set 64 w 55 ≡ r → is_set 64 w 56 ≡ c → field_of 64 w 58 59 ≡ att → field_of 64 w 60 63 ≡ eaa → entry_of w ≡ Leaf page r c att eaa
unfolding entry_of
as_leaf w page att eaa r c v l p er ec a e = rw (v, l, p, er, ec, a, e) refl

pub read_back : (entry : Entry) → Fits entry → entry_of (word_of entry) ≡ entry
unfolding entry_of word_of
read_back Invalid fits = refl
read_back (Directory base size) fits =
    let zeros : base % 2 ^ 8 ≡ 0 = fits.0.0 in
    let top : base < 2 ^ 60 = fits.0.1 in
    let few : size < 32 = fits.1 in
    as_directory (word_of (Directory base size)) base size (omega arith) (omega arith) (omega arith) (omega arith)
read_back (Leaf page r c att eaa) fits =
    let zeros : page % 2 ^ 12 ≡ 0 = fits.0.0 in
    let top : page < 2 ^ 57 = fits.0.1 in
    let a : att < 4 = fits.1 in
    let e : eaa < 16 = fits.2 in
    by_marks r c page att eaa zeros top a e
  where
    by_marks : (r c : Bool) (page att eaa : ℕ) → page % 2 ^ 12 ≡ 0 → page < 2 ^ 57 → att < 4 → eaa < 16 → entry_of (word_of (Leaf page r c att eaa)) ≡ Leaf page r c att eaa
    by_marks true true page att eaa z t a e = as_leaf (word_of (Leaf page true true att eaa)) page att eaa true true (omega arith) (omega arith) (omega arith) (grind arith) (grind arith) (omega arith) (omega arith)
    by_marks true false page att eaa z t a e = as_leaf (word_of (Leaf page true false att eaa)) page att eaa true false (omega arith) (omega arith) (omega arith) (grind arith) (grind arith) (omega arith) (omega arith)
    by_marks false true page att eaa z t a e = as_leaf (word_of (Leaf page false true att eaa)) page att eaa false true (omega arith) (omega arith) (omega arith) (grind arith) (grind arith) (omega arith) (omega arith)
    by_marks false false page att eaa z t a e = as_leaf (word_of (Leaf page false false att eaa)) page att eaa false false (omega arith) (omega arith) (omega arith) (grind arith) (grind arith) (omega arith) (omega arith)
