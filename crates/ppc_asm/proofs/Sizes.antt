-- The bytes of a line are as many as the first pass reckons with.
use Rattle.std.proofs.Common.{◌≡◌, ℕ, ◌+◌, ◌≤◌, ◌^◌, Bool, true, false, cond, List, [], ◌∷◌, ◌++◌, length, Some, None, Ok, Err, Option, refl, ap, ◌∙◌, sym, subst, arith, true≢false, eqb-true, ℤ, pos}
use Rattle.std.specs.Prelude.{option_map, ◌||◌, ◌==◌, nat_le}
use Rattle.std.proofs.lemmas.Bool.{leb-true}
use Rattle.std.proofs.lemmas.Option.{none-some}
use Rattle.std.proofs.lemmas.List.{length-append, length-replicate}
use Rattle.asm_statements.specs.declared.statement.Width.{Width}
use Rattle.asm_statements.specs.declared.statement.Width.TheVariants as widths
use Rattle.asm_statements.specs.declared.statement.Statement.{Statement}
use Rattle.asm_statements.specs.declared.statement.Statement.TheVariants as statements
use Rattle.asm_places.specs.Sums.{total, all_known}
use Rattle.asm_places.specs.Ranges.{in_range, space_of, padding_of}
use Rattle.asm_places.specs.Places.{address_of, address_or_zero, here_of, end_of, grown, width_size, if_known, worth, settled_base, after_statement, after_optional}
use Rattle.asm_places.specs.FirstPass.{Placed, after_placed}
use Rattle.asm_places.specs.declared.places.SegmentLine.{SegmentLine}
use Rattle.asm_places.specs.declared.places.Places.{Places}
use Rattle.asm_places.specs.declared.fault.AsmKind.{AsmKind}
use Rattle.asm_places.specs.declared.fault.AsmKind.TheVariants as kinds
use Rattle.asm_contents.specs.declared.content.Content.{Content}
use Rattle.asm_contents.specs.declared.content.Content.TheVariants as contents
use Rattle.asm_contents.specs.Contents.{content_bytes, fits_word, word_content, doubleword_content, big_endian_content, data_content, nothing_where, statement_content, is_known, ends_below, begun_kind, unless_kind, in_place, statement_or_kind, content_or_kind}
use Rattle.asm_contents.specs.Values.{line_word}
use Rattle.ppc_asm.specs.Images.{begun_by, bytes_where, begun_at}
use Rattle.ppc_asm.specs.Filling.{Part, Filled, HasRoom, longer, filled_by, filled, EndsAlike, with_line, IsGood}

-- so many bytes more in the last segment
grown-address : (n a : ℕ) (ss : List SegmentLine) → address_of ss ≡ Some a → address_of (grown n ss) ≡ Some (a + n)
grown-address n a [] e = absurd (none-some a e)
grown-address n a (s ∷ []) e = let same : s.base + s.size ≡ a = cc in ap Some (omega arith)
grown-address n a (s ∷ t ∷ []) e = grown-address n a (t ∷ []) e
grown-address n a (s ∷ t ∷ u ∷ ss) e = grown-address n a (t ∷ u ∷ ss) e

grown-zero : (ss : List SegmentLine) → grown 0 ss ≡ ss
grown-zero [] = refl
grown-zero (s ∷ []) = λ i. record { line = s.line; base = s.base; size = plus-zero s.size i } ∷ []
  where
    plus-zero : (n : ℕ) → n + 0 ≡ n
    plus-zero n = omega arith
grown-zero (s ∷ t ∷ ss) = ap (λ r. s ∷ r) (grown-zero (t ∷ ss))

pushed-address : (ss : List SegmentLine) (s : SegmentLine) → address_of (ss ++ s ∷ []) ≡ Some (end_of s)
pushed-address [] s = refl
pushed-address (x ∷ []) s = refl
pushed-address (x ∷ y ∷ ss) s = pushed-address (y ∷ ss) s

-- and as many in the segment that is being filled
grown-ends : (bytes : List ℕ) (ss : List SegmentLine) (o : Option Part) → EndsAlike ss o → EndsAlike (grown (length bytes) ss) (option_map (longer bytes) o)
grown-ends bytes ss (Some o) h =
    grown-address (length bytes) (o.base + length o.bytes) ss h
    ∙ (let l = length-append o.bytes bytes in ap Some (omega arith))
grown-ends bytes ss None h = ap (grown (length bytes)) h

-- a statement that is no .seg has as many bytes in the first pass as in the second
if-some : (t : Bool) (a c : Content) → cond t (Some a) None ≡ Some c → a ≡ c
if-some true a c e = cc
if-some false a c e = absurd (none-some c e)

data-length : (width : Width) (z : ℤ) (c : Content) → data_content width z ≡ Some c → width_size width ≡ length (content_bytes c)
data-length widths.Word z c e = ap (λ d. length (content_bytes d)) (if-some (fits_word z) (word_content z) c e)
data-length widths.Doubleword z c e = of (in_range z) e
  where
    of : (o : Option ℤ) → option_map doubleword_content o ≡ Some c → 8 ≡ length (content_bytes c)
    of (Some y) same = let j : doubleword_content y ≡ c = cc in ap (λ d. length (content_bytes d)) j
    of None same = absurd (none-some c same)
data-length widths.BigEndianDoubleword z c e = of (in_range z) e
  where
    of : (o : Option ℤ) → option_map big_endian_content o ≡ Some c → 8 ≡ length (content_bytes c)
    of (Some y) same = let j : big_endian_content y ≡ c = cc in ap (λ d. length (content_bytes d)) j
    of None same = absurd (none-some c same)

nothing-length : {A : Type 0} (o : Option A) (c : Content) → nothing_where o ≡ Some c → 0 ≡ length (content_bytes c)
nothing-length (Some a) c e = let j : contents.Nothing ≡ c = cc in ap (λ d. length (content_bytes d)) j
nothing-length None c e = absurd (none-some c e)

zeros-length : (b : Bool) (o : Option ℕ) (c : Content) → b ≡ true → option_map contents.Zeros o ≡ Some c → if_known b o ≡ length (content_bytes c)
zeros-length true (Some n) c k e = let j : contents.Zeros n ≡ c = cc in sym (length-replicate n 0) ∙ ap (λ d. length (content_bytes d)) j
zeros-length true None c k e = absurd (none-some c e)
zeros-length false o c k e = absurd (true≢false (sym k))

word-length : (o : Option ℕ) (c : Content) → option_map contents.Word o ≡ Some c → 4 ≡ length (content_bytes c)
word-length (Some w) c e = let j : contents.Word w ≡ c = cc in ap (λ d. length (content_bytes d)) j
word-length None c e = absurd (none-some c e)

same-grown : (n m : ℕ) (ss : List SegmentLine) → n ≡ m → grown n ss ≡ grown m ss
same-grown n m ss e = ap (λ k. grown k ss) e

-- what a good line is
pub record Stands (whole p : Places) (statement : Statement) (c : Content) : Type 0 where
  pub known : is_known whole.names p statement ≡ true
  pub content : statement_content whole.names p statement ≡ Some c
  pub below : ends_below (here_of p) (length (content_bytes c)) ≡ true
  pub begun : begun_kind whole.segments p statement ≡ None

stands-unless : (k : Option AsmKind) (d c : Content) → unless_kind k d ≡ Ok c → (d ≡ c) × (k ≡ None)
stands-unless (Some kind) d c e = let no : ⊥ = cc in absurd no
stands-unless None d c e = (cc, refl)

stands-in : (whole p : Places) (statement : Statement) (c : Content) (o : Option Content) → is_known whole.names p statement ≡ true → statement_content whole.names p statement ≡ o
    → in_place whole p statement o ≡ Ok c → Stands whole p statement c
stands-in whole p statement c None known is e = let no : ⊥ = cc in absurd no
stands-in whole p statement c (Some d) known is e = of (ends_below (here_of p) (length (content_bytes d))) refl e
  where
    of : (b : Bool) → ends_below (here_of p) (length (content_bytes d)) ≡ b → cond b (unless_kind (begun_kind whole.segments p statement) d) (Err kinds.Range) ≡ Ok c → Stands whole p statement c
    of true below same =
        let both = stands-unless (begun_kind whole.segments p statement) d c same in
        let j = both.0 in
        record { known = known; content = is ∙ ap Some j; below = ap (λ x. ends_below (here_of p) (length (content_bytes x))) (sym j) ∙ below; begun = both.1 }
    of false below same = let no : ⊥ = cc in absurd no

pub stands : (whole p : Places) (statement : Statement) (c : Content) → statement_or_kind whole p statement ≡ Ok c → Stands whole p statement c
stands whole p statement c e = of (is_known whole.names p statement) refl e
  where
    of : (b : Bool) → is_known whole.names p statement ≡ b → cond b (in_place whole p statement (statement_content whole.names p statement)) (Err kinds.Unknown) ≡ Ok c → Stands whole p statement c
    of true known same = stands-in whole p statement c (statement_content whole.names p statement) known refl same
    of false known same = let no : ⊥ = cc in absurd no

-- behind a statement the segment that is being filled ends where the last one does
ends-bytes : (f : Filled) (c : Content) (n : ℕ) (ss : List SegmentLine) → n ≡ length (content_bytes c) → EndsAlike ss f.last → EndsAlike (grown n ss) (filled (content_bytes c) f).last
ends-bytes f c n ss e h = subst (λ k. EndsAlike (grown k ss) (option_map (longer (content_bytes c)) f.last)) (sym e) (grown-ends (content_bytes c) ss f.last h)

ends-same : (f : Filled) (c : Content) (ss : List SegmentLine) → 0 ≡ length (content_bytes c) → EndsAlike ss f.last → EndsAlike ss (filled (content_bytes c) f).last
ends-same f c ss e h = subst (λ r. EndsAlike r (option_map (longer (content_bytes c)) f.last)) (grown-zero ss) (ends-bytes f c 0 ss e h)

ends-statement : (number : ℕ) (whole p : Places) (statement : Statement) (c : Content) (f : Filled) → Stands whole p statement c → EndsAlike p.segments f.last
    → EndsAlike (after_statement number statement p).segments (filled_by (begun_by (Some statement) p) (content_bytes c) f).last
ends-statement number whole p (statements.Seg e) c f s h = pushed-address p.segments (record { line = number; base = settled_base (worth p e); size = 0 })
ends-statement number whole p (statements.Entry name) c f s h = ends-same f c p.segments (let is = s.content in let j : contents.Nothing ≡ c = cc in ap (λ d. length (content_bytes d)) j) h
ends-statement number whole p (statements.Equ name e) c f s h = ends-same f c p.segments (nothing-length (in_range (total p.names (pos (here_of p)) e)) c s.content) h
ends-statement number whole p (statements.Data width e) c f s h = ends-bytes f c (width_size width) p.segments (data-length width (total whole.names (pos (here_of p)) e) c s.content) h
ends-statement number whole p (statements.Ascii text) c f s h =
    ends-bytes f c (length text) p.segments (let is = s.content in let j : contents.Text text ≡ c = cc in ap (λ d. length (content_bytes d)) j) h
ends-statement number whole p (statements.Space e) c f s h =
    let z = total p.names (pos (here_of p)) e in
    ends-bytes f c (if_known (all_known p.names e) (space_of p.zeros z)) p.segments (zeros-length (all_known p.names e) (space_of p.zeros z) c s.known s.content) h
ends-statement number whole p (statements.Align e) c f s h =
    let z = total p.names (pos (here_of p)) e in
    ends-bytes f c (if_known (all_known p.names e) (padding_of p.zeros (here_of p) z)) p.segments
    (zeros-length (all_known p.names e) (padding_of p.zeros (here_of p) z) c s.known s.content) h
ends-statement number whole p (statements.Instruction mnemonic operands) c f s h =
    ends-bytes f c 4 p.segments (word-length (line_word whole.names (pos (here_of p)) mnemonic operands) c s.content) h

ends-optional : (number : ℕ) (whole p : Places) (o : Option Statement) (c : Content) (f : Filled) → content_or_kind whole p o ≡ Ok c → EndsAlike p.segments f.last
    → EndsAlike (after_optional number o p).segments (filled_by (begun_by o p) (content_bytes c) f).last
ends-optional number whole p (Some statement) c f e h = ends-statement number whole p statement c f (stands whole p statement c e) h
ends-optional number whole p None c f e h = ends-same f c p.segments (let j : contents.Nothing ≡ c = cc in ap (λ d. length (content_bytes d)) j) h

-- the same behind a line
pub ends-behind : (whole : Places) (x : Placed) (f : Filled) → IsGood whole x → EndsAlike x.at.segments f.last → EndsAlike (after_placed x).segments (with_line whole x f).last
ends-behind whole x f g h =
    subst (λ r. EndsAlike (after_placed x).segments (filled_by (begun_at x) (bytes_where r) f).last) (sym g.is)
    (ends-optional x.number whole x.at x.statement g.content f g.is h)

-- there is room for the bytes of a good line
room-below : (here size : ℕ) → here ≤ 2 ^ 64 → ends_below here size ≡ true → here + size ≤ 2 ^ 64
room-below here size l e = of (size == 0) (nat_le (here + size) (2 ^ 64)) refl refl e
  where
    of : (a b : Bool) → (size == 0) ≡ a → nat_le (here + size) (2 ^ 64) ≡ b → (a || b) ≡ true → here + size ≤ 2 ^ 64
    of true b i j k = let n : size ≡ 0 = eqb-true size 0 i in omega arith
    of false true i j k = leb-true (here + size) (2 ^ 64) j
    of false false i j k = absurd (true≢false (sym k))

room-open : (ss : List SegmentLine) (size : ℕ) (o : Option Part) → EndsAlike ss o → HasRoom 0 o → ends_below (address_or_zero (address_of ss)) size ≡ true → HasRoom size o
room-open ss size (Some o) h r e =
    let at : address_or_zero (address_of ss) ≡ o.base + length o.bytes = ap address_or_zero h in
    room-below (o.base + length o.bytes) size (omega arith) (ap (λ a. ends_below a size) (sym at) ∙ e)
room-open ss size None h r e = tt

room-optional : (whole p : Places) (s : Option Statement) (c : Content) (o : Option Part) → content_or_kind whole p s ≡ Ok c → EndsAlike p.segments o → HasRoom 0 o → HasRoom (length (content_bytes c)) o
room-optional whole p (Some statement) c o e h r = room-open p.segments (length (content_bytes c)) o h r (stands whole p statement c e).below
room-optional whole p None c o e h r = subst (λ d. HasRoom (length (content_bytes d)) o) (let j : contents.Nothing ≡ c = cc in j) r

pub room-for : (whole p : Places) (s : Option Statement) (c : Content) (o : Option Part) → content_or_kind whole p s ≡ Ok c → EndsAlike p.segments o → HasRoom 0 o → HasRoom (length (content_bytes c)) o
room-for whole p s c o e h r = room-optional whole p s c o e h r
