-- What is written for what is read is the word with the bits that no field names cleared.
use Rattle.std.proofs.Common.{◌≡◌, ℕ, zero, suc, ◌+◌, ◌-◌, ◌^◌, ◌<◌, refl, arith}
use Rattle.ppc_bits.specs.Bits.{bit, field_of}
use Rattle.table_formats.specs.declared.entries.Entry.TheVariants.{Directory}
use Rattle.table_formats.specs.Entries.{base_of, size_of, leaf_of, entry_of, word_of, named, worth}
use Rattle.table_formats.proofs.Splits.{split, flag_is}

directory_back : (w : ℕ) → w < 2 ^ 64 → field_of 64 w 0 0 ≡ 1 → bit 64 w 1 ≡ 0 → word_of (Directory (base_of w) (size_of w)) ≡ w - (worth w 2 3 + worth w 56 58)
unfolding word_of
directory_back w h v l = omega (arith, split w 0 5, split w 5 3, split w 8 52, split w 60 2, split w 62 1, split w 63 1)

leaf_back : (w : ℕ) → w < 2 ^ 64 → field_of 64 w 0 0 ≡ 1 → bit 64 w 1 ≡ 1 → word_of (leaf_of w) ≡ w - (worth w 2 6 + worth w 52 54 + worth w 57 57)
unfolding word_of
leaf_back w h v l = omega (arith, flag_is w 55, flag_is w 56, split w 0 4, split w 4 2, split w 6 1, split w 7 1, split w 8 1, split w 9 3, split w 12 45, split w 57 5, split w 62 1, split w 63 1)

pub written_back : (w : ℕ) → w < 2 ^ 64 → word_of (entry_of w) ≡ named w
unfolding entry_of word_of
written_back w h = by_bits (field_of 64 w 0 0) (bit 64 w 1) refl refl
  where
    by_bits : (v l : ℕ) → field_of 64 w 0 0 ≡ v → bit 64 w 1 ≡ l → word_of (entry_of w) ≡ named w
    by_bits zero l ev el = rw (ev) refl
    by_bits (suc zero) zero ev el = rw (ev, el) (directory_back w h ev el)
    by_bits (suc zero) (suc zero) ev el = rw (ev, el) (leaf_back w h ev el)
    by_bits (suc (suc v)) l ev el = absurd (omega arith)
    by_bits (suc zero) (suc (suc l)) ev el = absurd (omega arith)
