-- Writing pairs one by one.
use Rattle.std.proofs.Common.{◌≡◌, ℕ, ◌+◌, ◌<◌, ◌≤◌, List, [], ◌∷◌, ◌++◌, true, false, length, take, get_or, eqb, append_assoc, codes, decimal, refl, sym, ap, subst, ◌∙◌, arith}
use Rattle.std.specs.List.{All, flat_map}
use Rattle.std.proofs.lemmas.Bool.{false≢true, ne_eqb}
use Rattle.std.proofs.lemmas.Grind.{flat_map-append}
use Rattle.std.proofs.lemmas.List.{take_all, take_more, append-nil}
use Rattle.std.proofs.lemmas.List.Elements.{All-more}
use Rattle.base64.specs.Engines.{standard}
use Rattle.base64.specs.GeneralPurpose.{encode_of}
use Rattle.sdbm_addr.specs.declared.KeyBytes.{KeyBytes}
use Rattle.sdbm_addr.specs.declared.PageSize.{PageSize}
use Rattle.sdbm_addr.specs.Pairs.{Pair}
use Rattle.dbm_dump.specs.Texts.{datum_lines, gdbm_end, gdbm_header, gdbm_pair, gdbm_text, dump_pair_line, plain_end, plain_header, plain_text, text_lines}

pub texts_more : (f : Pair → List ℕ) (pairs : List Pair) (i : ℕ) (e : Pair) → i < length pairs → e ≡ get_or pairs i e → flat_map f (take (i + 1) pairs) ≡ flat_map f (take i pairs) ++ f e
texts_more f pairs i e h is =
    ap (flat_map f) (take_more pairs i e h) ∙ flat_map-append f (take i pairs) (get_or pairs i e ∷ [])
    ∙ ap (λ (text : List ℕ). flat_map f (take i pairs) ++ text) (append-nil (f (get_or pairs i e)) ∙ ap f (sym is))

-- no bytes have no line
pub text_none : (bytes : List ℕ) → eqb (length bytes) 0 ≡ true → text_lines bytes ≡ []
text_none [] h = refl
text_none (b ∷ bs) h = absurd (false≢true (sym (ne_eqb (length (b ∷ bs)) 0 (λ is. omega arith)) ∙ h))

pub text_some : (bytes : List ℕ) → eqb (length bytes) 0 ≡ false → text_lines bytes ≡ encode_of standard bytes ++ 10 ∷ []
text_some [] h = absurd (false≢true (sym h))
text_some (b ∷ bs) h = refl

-- appending three texts
pub three : (old one two three' : List ℕ) (a b c : List ℕ) → one ≡ old ++ a → two ≡ one ++ b → three' ≡ two ++ c → three' ≡ old ++ (a ++ (b ++ c))
three old one two three' a b c p q r =
    r ∙ ap (λ (t : List ℕ). t ++ c) (q ∙ ap (λ (t : List ℕ). t ++ b) p) ∙ append_assoc (old ++ a) b c ∙ append_assoc old a (b ++ c)

-- ---- loops over pairs

pub same_pair : (a b : List ℕ) (e : Pair) → a ≡ e.0 → b ≡ e.1 → (a, b) ≡ e
same_pair a b e p q = λ i. (p i, q i)

pub written_more : (f : Pair → List ℕ) (front : List ℕ) (pairs : List Pair) (i : ℕ) (e : Pair) (a b old new : List ℕ) → i < length pairs → e ≡ get_or pairs i e → a ≡ e.0 → b ≡ e.1
    → old ≡ front ++ flat_map f (take i pairs) → new ≡ old ++ f (a, b) → new ≡ front ++ flat_map f (take (i + 1) pairs)
written_more f front pairs i e a b old new h is p q before added =
    added ∙ ap (λ (x : Pair). old ++ f x) (same_pair a b e p q) ∙ ap (λ (t : List ℕ). t ++ f e) before ∙ append_assoc front (flat_map f (take i pairs)) (f e)
    ∙ ap (λ (t : List ℕ). front ++ t) (sym (texts_more f pairs i e h is))

pub good_more : (P : Pair → Type 0) (pairs : List Pair) (i : ℕ) (e : Pair) (a b : List ℕ) → i < length pairs → e ≡ get_or pairs i e → a ≡ e.0 → b ≡ e.1
    → All P (take i pairs) → P (a, b) → All P (take (i + 1) pairs)
good_more P pairs i e a b h is p q before here = All-more P pairs i e h before (subst P (same_pair a b e p q ∙ is) here)

pub good_all : (P : Pair → Type 0) (pairs : List Pair) (i : ℕ) → length pairs ≤ i → All P (take i pairs) → All P pairs
good_all P pairs i h good = subst (λ (es : List Pair). All P es) (take_all i pairs h) good

-- ---- whole texts

pub plain_whole : (kind : KeyBytes) (size : PageSize) (pairs : List Pair) (i : ℕ) (old text : List ℕ) → length pairs ≤ i
    → old ≡ plain_header kind size (length pairs) ++ flat_map dump_pair_line (take i pairs) → text ≡ old ++ (plain_end ++ 10 ∷ []) → text ≡ plain_text kind size pairs
plain_whole kind size pairs i old text h p q =
    let header : List ℕ = plain_header kind size (length pairs) in
    let all : old ≡ header ++ flat_map dump_pair_line pairs = p ∙ ap (λ (es : List Pair). header ++ flat_map dump_pair_line es) (take_all i pairs h) in
    q ∙ ap (λ (t : List ℕ). t ++ (plain_end ++ 10 ∷ [])) all ∙ append_assoc header (flat_map dump_pair_line pairs) (plain_end ++ 10 ∷ [])

pub gdbm_whole : (pairs : List Pair) (i : ℕ) (zero one two text : List ℕ) → length pairs ≤ i → zero ≡ gdbm_header ++ flat_map gdbm_pair (take i pairs)
    → one ≡ zero ++ codes "#:count=" → two ≡ one ++ decimal (length pairs) → text ≡ two ++ (10 ∷ (codes "# End of data" ++ 10 ∷ [])) → text ≡ gdbm_text pairs
gdbm_whole pairs i zero one two text h p q r s =
    let all : zero ≡ gdbm_header ++ flat_map gdbm_pair pairs = p ∙ ap (λ (es : List Pair). gdbm_header ++ flat_map gdbm_pair es) (take_all i pairs h) in
    let end : List ℕ = 10 ∷ (codes "# End of data" ++ 10 ∷ []) in
    s ∙ ap (λ (t : List ℕ). t ++ end) (r ∙ ap (λ (t : List ℕ). t ++ decimal (length pairs)) q ∙ append_assoc zero (codes "#:count=") (decimal (length pairs)))
    ∙ append_assoc zero (codes "#:count=" ++ decimal (length pairs)) end
    ∙ ap (λ (t : List ℕ). t ++ gdbm_end (length pairs)) all
    ∙ append_assoc gdbm_header (flat_map gdbm_pair pairs) (gdbm_end (length pairs))

-- the lines of an empty datum
pub datum_empty : (old one two text bytes : List ℕ) → eqb (length bytes) 0 ≡ true → one ≡ old ++ codes "#:len=" → two ≡ one ++ decimal (length bytes) → text ≡ two ++ 10 ∷ []
    → text ≡ old ++ datum_lines bytes
datum_empty old one two text bytes none p q r =
    let start : two ≡ old ++ (codes "#:len=" ++ decimal (length bytes)) = q ∙ ap (λ (t : List ℕ). t ++ decimal (length bytes)) p ∙ append_assoc old (codes "#:len=") (decimal (length bytes)) in
    r ∙ ap (λ (t : List ℕ). t ++ 10 ∷ []) start ∙ append_assoc old (codes "#:len=" ++ decimal (length bytes)) (10 ∷ [])
    ∙ ap (λ (t : List ℕ). old ++ ((codes "#:len=" ++ decimal (length bytes)) ++ (10 ∷ t))) (sym (text_none bytes none))

pub datum_full : (old one two mid last text bytes : List ℕ) → eqb (length bytes) 0 ≡ false → one ≡ old ++ codes "#:len=" → two ≡ one ++ decimal (length bytes) → mid ≡ two ++ 10 ∷ []
    → last ≡ mid ++ encode_of standard bytes → text ≡ last ++ 10 ∷ [] → text ≡ old ++ datum_lines bytes
datum_full old one two mid last text bytes some p q r s u =
    let start : two ≡ old ++ (codes "#:len=" ++ decimal (length bytes)) = q ∙ ap (λ (t : List ℕ). t ++ decimal (length bytes)) p ∙ append_assoc old (codes "#:len=") (decimal (length bytes)) in
    let enc : List ℕ = encode_of standard bytes in
    let head : List ℕ = codes "#:len=" ++ decimal (length bytes) in
    u ∙ ap (λ (t : List ℕ). t ++ 10 ∷ []) (s ∙ ap (λ (t : List ℕ). t ++ enc) (r ∙ ap (λ (t : List ℕ). t ++ 10 ∷ []) start))
    ∙ append_assoc ((old ++ head) ++ 10 ∷ []) enc (10 ∷ [])
    ∙ append_assoc (old ++ head) (10 ∷ []) (enc ++ 10 ∷ [])
    ∙ append_assoc old head (10 ∷ (enc ++ 10 ∷ []))
    ∙ ap (λ (t : List ℕ). old ++ (head ++ (10 ∷ t))) (sym (text_some bytes some))
