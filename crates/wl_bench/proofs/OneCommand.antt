-- A line is one command at most.
use Rattle.std.proofs.Common.{◌≡◌, ◌∙◌, ℕ, suc, ◌+◌, ◌*◌, ◌<◌, ◌≤◌, ◌==◌, ◌||◌, ◌/◌, ◌%◌, Bool, true, false, List, [], ◌∷◌, length, map, get_or, refl, sym, ap, subst, arith, codes, pos}
use Rattle.std.specs.Fmt.{decimal, digit_glyph}
use Rattle.std.specs.Prelude.{if◌then◌else◌, nat_lt}
use Rattle.std.specs.List.{flat_map}
use Rattle.std.proofs.lemmas.Bool.{eq-eqb, ltb-false, ltb-true, true≢false}
use Rattle.std.proofs.lemmas.Fmt.{decimal_injective}
use Rattle.std.proofs.lemmas.List.Elements.{All-tail}
use Rattle.wl_bench.specs.Commands.{AreBytes, AreHex, AreNumbers, AreTokens, AskSame, AskSameOfClient, IsByte, IsClientCommand, IsCommand, IsLine, NamesFault, parts, token, words}
use Rattle.wl_bench.specs.Hex.{hex_digits}
use Rattle.wl_bench.specs.declared.command.ClientCommand.{ClientCommand}
use Rattle.wl_bench.specs.declared.command.ClientCommand.TheVariants.{Arrive, Read, Finish, Kill, Accept, FailIn, FailOut}
use Rattle.wl_bench.specs.declared.command.Command.{Command}
use Rattle.wl_bench.specs.declared.command.Command.TheVariants.{Insert, Client, Dispatch, Create, Disable, Remove, Flush, Cleanup, Notes}
use Rattle.wl_wire.specs.declared.argument.Token.{Token}
use Rattle.wl_wire.specs.declared.error.IoFault.{IoFault}
use Rattle.wl_wire.specs.declared.error.IoFault.TheVariants.{WouldBlock, Pipe, TooBig, Proto, InvalidInput, OutOfMemory, Other}
use Rattle.wl_bench.proofs.Numbers.{first_digit, unique}

-- ---- what the words of commands are

same_number : (m n : ℕ) → m ≤ 4294967295 → n ≤ 4294967295 → decimal m ≡ decimal n → m ≡ n
same_number m n few few' same = decimal_injective m n (omega (arith, few)) (omega (arith, few')) same

same_glyph : (d e : ℕ) → d < 16 → e < 16 → digit_glyph false d ≡ digit_glyph false e → d ≡ e
same_glyph d e few few' same = at (nat_lt d 10) (nat_lt e 10) refl refl same
  where
    at : (b c : Bool) → nat_lt d 10 ≡ b → nat_lt e 10 ≡ c → (if b then 48 + d else 87 + d) ≡ (if c then 48 + e else 87 + e) → d ≡ e
    at true true h k same = omega (arith, same)
    at true false h k same = let low = ltb-true d 10 h in let high = ltb-false e 10 k in absurd (omega (arith, same, low, high))
    at false true h k same = let high = ltb-false d 10 h in let low = ltb-true e 10 k in absurd (omega (arith, same, low, high))
    at false false h k same = omega (arith, same)

same_byte : (a b : ℕ) → a < 256 → b < 256 → hex_digits a ≡ hex_digits b → a ≡ b
same_byte a b few few' same =
    let high = same_glyph (a / 16) (b / 16) (omega arith) (omega arith) (ap (λ (l : List ℕ). get_or l 0 0) same) in
    let low = same_glyph (a % 16) (b % 16) (omega arith) (omega arith) (ap (λ (l : List ℕ). get_or l 1 0) same) in
    omega arith

same_hex : (xs ys text : List ℕ) → AreHex xs text → AreHex ys text → xs ≡ ys
same_hex [] [] text h k = refl
same_hex [] (y ∷ ys) text h k = let e = h.1 in let f = k.1 in absurd (cc)
same_hex (x ∷ xs) [] text h k = let e = h.1 in let f = k.1 in absurd (cc)
same_hex (x ∷ xs) (y ∷ ys) text h k =
    let e = sym h.1 ∙ k.1 in
    let front : hex_digits x ≡ hex_digits y = ap (λ (l : List ℕ). get_or l 0 0 ∷ get_or l 1 0 ∷ []) e in
    let tail : flat_map hex_digits xs ≡ flat_map hex_digits ys = cc in
    let first = same_byte x y (h.0 0 0 (omega arith)) (k.0 0 0 (omega arith)) front in
    let rest = same_hex xs ys (flat_map hex_digits xs) (All-tail IsByte x xs h.0, refl) (All-tail IsByte y ys k.0, tail) in
    cc

-- bytes take two digits each
not_dash : (x : ℕ) (xs word : List ℕ) → word ≡ codes "-" → ¬ (AreHex (x ∷ xs) word)
not_dash x xs word dash h =
    let long : length word ≡ suc (suc (length (flat_map hex_digits xs))) = ap length h.1 in
    let short : length word ≡ 1 = ap length dash in
    omega arith

same_bytes : (xs ys word : List ℕ) → AreBytes xs word → AreBytes ys word → xs ≡ ys
same_bytes [] [] word h k = refl
same_bytes [] (y ∷ ys) word h k = absurd (not_dash y ys word h k)
same_bytes (x ∷ xs) [] word h k = absurd (not_dash x xs word k h)
same_bytes (x ∷ xs) (y ∷ ys) word h k = same_hex (x ∷ xs) (y ∷ ys) word h k

-- a number begins with a digit
no_dashes : (t : Token) (tokens : List Token) (word : List ℕ) → word ≡ codes "-" → ¬ (AreTokens (t ∷ tokens) word)
no_dashes t tokens word dash ([], are, few, is) = absurd (cc)
no_dashes t tokens word dash (n ∷ numbers, are, few, is) =
    let listed : AreNumbers (n ∷ numbers) (codes "-") = subst (λ (w : List ℕ). AreNumbers (n ∷ numbers) w) dash are in
    let first = first_digit n (codes "-") listed.0 in
    omega arith

same_tokens : (ts us : List Token) (word : List ℕ) → AreTokens ts word → AreTokens us word → ts ≡ us
same_tokens [] [] word h k = refl
same_tokens [] (u ∷ us) word h k = absurd (no_dashes u us word h k)
same_tokens (t ∷ ts) [] word h k = absurd (no_dashes t ts word k h)
same_tokens (t ∷ ts) (u ∷ us) word h k = h.3 ∙ (ap (map token) (unique h.0 k.0 (parts 44 word) h.1 k.1) ∙ sym k.3)

-- ---- which command words are of

-- of a word, its length and its first letter
abbrev mark : List ℕ → ℕ
mark word = length word * 256 + get_or word 0 0

abbrev first_mark : List (List ℕ) → ℕ
first_mark ws = mark (get_or ws 0 [])

clash : (a m n : ℕ) → a ≡ m → a ≡ n → (m == n) ≡ false → ⊥
clash a m n is are differ = true≢false (sym (eq-eqb m n (sym is ∙ are)) ∙ differ)

abbrev fault_at : ℕ → IoFault
fault_at m =
    if m == mark (codes "WouldBlock") then WouldBlock
    else (if m == mark (codes "Pipe") then Pipe
    else (if m == mark (codes "TooBig") then TooBig
    else (if m == mark (codes "Proto") then Proto
    else (if m == mark (codes "InvalidInput") then InvalidInput
    else Other (pos 5)))))

named : (fault : IoFault) (name : List ℕ) → NamesFault fault name → fault ≡ fault_at (mark name)
named OutOfMemory name h = absurd h
named (Other n) name h = rw (h.0, h.1) refl
named _ name h = rw h refl

same_fault : (fault fault' : IoFault) (name name' : List ℕ) → NamesFault fault name → NamesFault fault' name' → name ≡ name' → fault ≡ fault'
same_fault fault fault' name name' h k same = named fault name h ∙ (ap (λ (w : List ℕ). fault_at (mark w)) same ∙ sym (named fault' name' k))

-- ---- commands about a client

abbrev word_at : ℕ → List (List ℕ) → List ℕ
word_at i ws = get_or ws i []

slot_word : (ws : List (List ℕ)) (slot : ℕ) (c : ClientCommand) → IsClientCommand slot c ws → word_at 1 ws ≡ decimal slot
slot_word ws slot (Arrive bytes tokens) h = ap (word_at 1) h.2
slot_word ws slot Read h = ap (word_at 1) h
slot_word ws slot Finish h = ap (word_at 1) h
slot_word ws slot Kill h = ap (word_at 1) h
slot_word ws slot (Accept counts) h = ap (word_at 1) h.1
slot_word ws slot (FailIn fault) h = ap (word_at 1) h.1
slot_word ws slot (FailOut fault) h = ap (word_at 1) h.1

abbrev is_client : ℕ → Bool
is_client m =
    (m == mark (codes "in")) || ((m == mark (codes "read")) || ((m == mark (codes "finish")) || ((m == mark (codes "kill")) || ((m == mark (codes "accept")) || (m == mark (codes "fail"))))))

client_mark : (ws : List (List ℕ)) (slot : ℕ) (c : ClientCommand) → IsClientCommand slot c ws → is_client (first_mark ws) ≡ true
client_mark ws slot (Arrive bytes tokens) h = ap (λ (vs : List (List ℕ)). is_client (first_mark vs)) h.2
client_mark ws slot Read h = ap (λ (vs : List (List ℕ)). is_client (first_mark vs)) h
client_mark ws slot Finish h = ap (λ (vs : List (List ℕ)). is_client (first_mark vs)) h
client_mark ws slot Kill h = ap (λ (vs : List (List ℕ)). is_client (first_mark vs)) h
client_mark ws slot (Accept counts) h = ap (λ (vs : List (List ℕ)). is_client (first_mark vs)) h.1
client_mark ws slot (FailIn fault) h = ap (λ (vs : List (List ℕ)). is_client (first_mark vs)) h.1
client_mark ws slot (FailOut fault) h = ap (λ (vs : List (List ℕ)). is_client (first_mark vs)) h.1

apart : (ws : List (List ℕ)) (slot : ℕ) (c : ClientCommand) (m : ℕ) → IsClientCommand slot c ws → first_mark ws ≡ m → is_client m ≡ false → ⊥
apart ws slot c m h is other = true≢false (sym (client_mark ws slot c h) ∙ (ap is_client is ∙ other))

one_of_client : (ws : List (List ℕ)) (slot slot' : ℕ) (c d : ClientCommand) → IsClientCommand slot c ws → IsClientCommand slot' d ws → AskSameOfClient c d
one_of_client ws slot slot' (Arrive bytes tokens) (Arrive bytes' tokens') h k =
    let same = sym k.2 ∙ h.2 in (
      same_bytes bytes.items bytes'.items h.0 h.3 (subst (λ (w : List ℕ). AreBytes bytes'.items w) (ap (word_at 2) same) k.3),
      same_tokens tokens.items tokens'.items h.1 h.4 (subst (λ (w : List ℕ). AreTokens tokens'.items w) (ap (word_at 3) same) k.4),
    )
one_of_client ws slot slot' (Arrive bytes tokens) Read h k = absurd (clash (first_mark ws) _ _ (ap first_mark h.2) (ap first_mark k) refl)
one_of_client ws slot slot' (Arrive bytes tokens) Finish h k = absurd (clash (first_mark ws) _ _ (ap first_mark h.2) (ap first_mark k) refl)
one_of_client ws slot slot' (Arrive bytes tokens) Kill h k = absurd (clash (first_mark ws) _ _ (ap first_mark h.2) (ap first_mark k) refl)
one_of_client ws slot slot' (Arrive bytes tokens) (Accept counts') h k = absurd (clash (first_mark ws) _ _ (ap first_mark h.2) (ap first_mark k.1) refl)
one_of_client ws slot slot' (Arrive bytes tokens) (FailIn fault') h k = absurd (clash (first_mark ws) _ _ (ap first_mark h.2) (ap first_mark k.1) refl)
one_of_client ws slot slot' (Arrive bytes tokens) (FailOut fault') h k = absurd (clash (first_mark ws) _ _ (ap first_mark h.2) (ap first_mark k.1) refl)
one_of_client ws slot slot' Read (Arrive bytes' tokens') h k = absurd (clash (first_mark ws) _ _ (ap first_mark h) (ap first_mark k.2) refl)
one_of_client ws slot slot' Read Read h k = tt
one_of_client ws slot slot' Read Finish h k = absurd (clash (first_mark ws) _ _ (ap first_mark h) (ap first_mark k) refl)
one_of_client ws slot slot' Read Kill h k = absurd (clash (first_mark ws) _ _ (ap first_mark h) (ap first_mark k) refl)
one_of_client ws slot slot' Finish (Arrive bytes' tokens') h k = absurd (clash (first_mark ws) _ _ (ap first_mark h) (ap first_mark k.2) refl)
one_of_client ws slot slot' Finish Read h k = absurd (clash (first_mark ws) _ _ (ap first_mark h) (ap first_mark k) refl)
one_of_client ws slot slot' Finish Finish h k = tt
one_of_client ws slot slot' Finish Kill h k = absurd (clash (first_mark ws) _ _ (ap first_mark h) (ap first_mark k) refl)
one_of_client ws slot slot' Kill (Arrive bytes' tokens') h k = absurd (clash (first_mark ws) _ _ (ap first_mark h) (ap first_mark k.2) refl)
one_of_client ws slot slot' Kill Read h k = absurd (clash (first_mark ws) _ _ (ap first_mark h) (ap first_mark k) refl)
one_of_client ws slot slot' Kill Finish h k = absurd (clash (first_mark ws) _ _ (ap first_mark h) (ap first_mark k) refl)
one_of_client ws slot slot' Kill Kill h k = tt
one_of_client ws slot slot' (Accept counts) (Arrive bytes' tokens') h k = absurd (clash (first_mark ws) _ _ (ap first_mark h.1) (ap first_mark k.2) refl)
one_of_client ws slot slot' (Accept counts) Read h k = absurd (clash (first_mark ws) _ _ (ap first_mark h.1) (ap first_mark k) refl)
one_of_client ws slot slot' (Accept counts) Finish h k = absurd (clash (first_mark ws) _ _ (ap first_mark h.1) (ap first_mark k) refl)
one_of_client ws slot slot' (Accept counts) Kill h k = absurd (clash (first_mark ws) _ _ (ap first_mark h.1) (ap first_mark k) refl)
one_of_client ws slot slot' (Accept counts) (Accept counts') h k =
    unique counts.items counts'.items (parts 44 h.0) h.2 (subst (λ (w : List ℕ). AreNumbers counts'.items w) (ap (word_at 2) (sym k.1 ∙ h.1)) k.2)
one_of_client ws slot slot' (Accept counts) (FailIn fault') h k = absurd (clash (first_mark ws) _ _ (ap first_mark h.1) (ap first_mark k.1) refl)
one_of_client ws slot slot' (Accept counts) (FailOut fault') h k = absurd (clash (first_mark ws) _ _ (ap first_mark h.1) (ap first_mark k.1) refl)
one_of_client ws slot slot' (FailIn fault) (Arrive bytes' tokens') h k = absurd (clash (first_mark ws) _ _ (ap first_mark h.1) (ap first_mark k.2) refl)
one_of_client ws slot slot' (FailIn fault) Read h k = absurd (clash (first_mark ws) _ _ (ap first_mark h.1) (ap first_mark k) refl)
one_of_client ws slot slot' (FailIn fault) Finish h k = absurd (clash (first_mark ws) _ _ (ap first_mark h.1) (ap first_mark k) refl)
one_of_client ws slot slot' (FailIn fault) Kill h k = absurd (clash (first_mark ws) _ _ (ap first_mark h.1) (ap first_mark k) refl)
one_of_client ws slot slot' (FailIn fault) (Accept counts') h k = absurd (clash (first_mark ws) _ _ (ap first_mark h.1) (ap first_mark k.1) refl)
one_of_client ws slot slot' (FailIn fault) (FailIn fault') h k = same_fault fault fault' h.0 k.0 h.2 k.2 (ap (word_at 3) (sym h.1 ∙ k.1))
one_of_client ws slot slot' (FailIn fault) (FailOut fault') h k = absurd (clash (mark (word_at 2 ws)) _ _ (ap (λ (vs : List (List ℕ)). mark (word_at 2 vs)) h.1) (ap (λ (vs : List (List ℕ)). mark (word_at 2 vs)) k.1) refl)
one_of_client ws slot slot' (FailOut fault) (Arrive bytes' tokens') h k = absurd (clash (first_mark ws) _ _ (ap first_mark h.1) (ap first_mark k.2) refl)
one_of_client ws slot slot' (FailOut fault) Read h k = absurd (clash (first_mark ws) _ _ (ap first_mark h.1) (ap first_mark k) refl)
one_of_client ws slot slot' (FailOut fault) Finish h k = absurd (clash (first_mark ws) _ _ (ap first_mark h.1) (ap first_mark k) refl)
one_of_client ws slot slot' (FailOut fault) Kill h k = absurd (clash (first_mark ws) _ _ (ap first_mark h.1) (ap first_mark k) refl)
one_of_client ws slot slot' (FailOut fault) (Accept counts') h k = absurd (clash (first_mark ws) _ _ (ap first_mark h.1) (ap first_mark k.1) refl)
one_of_client ws slot slot' (FailOut fault) (FailIn fault') h k = absurd (clash (mark (word_at 2 ws)) _ _ (ap (λ (vs : List (List ℕ)). mark (word_at 2 vs)) h.1) (ap (λ (vs : List (List ℕ)). mark (word_at 2 vs)) k.1) refl)
one_of_client ws slot slot' (FailOut fault) (FailOut fault') h k = same_fault fault fault' h.0 k.0 h.2 k.2 (ap (word_at 3) (sym h.1 ∙ k.1))
one_of_client ws slot slot' _ _ h k = absurd (clash (first_mark ws) _ _ (ap first_mark h) (ap first_mark k.1) refl)

-- ---- all commands

one_of_words : (ws : List (List ℕ)) (c d : Command) → IsCommand c ws → IsCommand d ws → AskSame c d
one_of_words ws Insert Insert h k = tt
one_of_words ws Insert (Client slot' d) h k = absurd (apart ws slot' d _ k.1 (ap first_mark h) refl)
one_of_words ws Insert (Create name' version') h k = absurd (clash (first_mark ws) _ _ (ap first_mark h) (ap first_mark k.2) refl)
one_of_words ws Insert Flush h k = absurd (clash (first_mark ws) _ _ (ap first_mark h) (ap first_mark k) refl)
one_of_words ws Insert Cleanup h k = absurd (clash (first_mark ws) _ _ (ap first_mark h) (ap first_mark k) refl)
one_of_words ws Insert Notes h k = absurd (clash (first_mark ws) _ _ (ap first_mark h) (ap first_mark k) refl)
one_of_words ws (Client slot c) Insert h k = absurd (apart ws slot c _ h.1 (ap first_mark k) refl)
one_of_words ws (Client slot c) (Client slot' d) h k =
    (same_number slot slot' h.0 k.0 (sym (slot_word ws slot c h.1) ∙ slot_word ws slot' d k.1), one_of_client ws slot slot' c d h.1 k.1)
one_of_words ws (Client slot c) (Dispatch slots') h k = absurd (apart ws slot c _ h.1 (ap first_mark k.1) refl)
one_of_words ws (Client slot c) (Create name' version') h k = absurd (apart ws slot c _ h.1 (ap first_mark k.2) refl)
one_of_words ws (Client slot c) (Disable name') h k = absurd (apart ws slot c _ h.1 (ap first_mark k.1) refl)
one_of_words ws (Client slot c) (Remove name') h k = absurd (apart ws slot c _ h.1 (ap first_mark k.1) refl)
one_of_words ws (Client slot c) Flush h k = absurd (apart ws slot c _ h.1 (ap first_mark k) refl)
one_of_words ws (Client slot c) Cleanup h k = absurd (apart ws slot c _ h.1 (ap first_mark k) refl)
one_of_words ws (Client slot c) Notes h k = absurd (apart ws slot c _ h.1 (ap first_mark k) refl)
one_of_words ws (Dispatch slots) Insert h k = absurd (clash (first_mark ws) _ _ (ap first_mark h.1) (ap first_mark k) refl)
one_of_words ws (Dispatch slots) (Client slot' d) h k = absurd (apart ws slot' d _ k.1 (ap first_mark h.1) refl)
one_of_words ws (Dispatch slots) (Dispatch slots') h k =
    unique slots.items slots'.items (parts 44 h.0) h.2 (subst (λ (w : List ℕ). AreNumbers slots'.items w) (ap (word_at 1) (sym k.1 ∙ h.1)) k.2)
one_of_words ws (Dispatch slots) (Create name' version') h k = absurd (clash (first_mark ws) _ _ (ap first_mark h.1) (ap first_mark k.2) refl)
one_of_words ws (Dispatch slots) (Disable name') h k = absurd (clash (first_mark ws) _ _ (ap first_mark h.1) (ap first_mark k.1) refl)
one_of_words ws (Dispatch slots) (Remove name') h k = absurd (clash (first_mark ws) _ _ (ap first_mark h.1) (ap first_mark k.1) refl)
one_of_words ws (Dispatch slots) Flush h k = absurd (clash (first_mark ws) _ _ (ap first_mark h.1) (ap first_mark k) refl)
one_of_words ws (Dispatch slots) Cleanup h k = absurd (clash (first_mark ws) _ _ (ap first_mark h.1) (ap first_mark k) refl)
one_of_words ws (Dispatch slots) Notes h k = absurd (clash (first_mark ws) _ _ (ap first_mark h.1) (ap first_mark k) refl)
one_of_words ws (Create name version) Insert h k = absurd (clash (first_mark ws) _ _ (ap first_mark h.2) (ap first_mark k) refl)
one_of_words ws (Create name version) (Client slot' d) h k = absurd (apart ws slot' d _ k.1 (ap first_mark h.2) refl)
one_of_words ws (Create name version) (Dispatch slots') h k = absurd (clash (first_mark ws) _ _ (ap first_mark h.2) (ap first_mark k.1) refl)
one_of_words ws (Create name version) (Create name' version') h k = (ap (word_at 1) (sym h.2 ∙ k.2), same_number version version' h.0 k.0 (ap (word_at 2) (sym h.2 ∙ k.2)))
one_of_words ws (Create name version) (Disable name') h k = absurd (clash (first_mark ws) _ _ (ap first_mark h.2) (ap first_mark k.1) refl)
one_of_words ws (Create name version) (Remove name') h k = absurd (clash (first_mark ws) _ _ (ap first_mark h.2) (ap first_mark k.1) refl)
one_of_words ws (Create name version) Flush h k = absurd (clash (first_mark ws) _ _ (ap first_mark h.2) (ap first_mark k) refl)
one_of_words ws (Create name version) Cleanup h k = absurd (clash (first_mark ws) _ _ (ap first_mark h.2) (ap first_mark k) refl)
one_of_words ws (Create name version) Notes h k = absurd (clash (first_mark ws) _ _ (ap first_mark h.2) (ap first_mark k) refl)
one_of_words ws (Disable name) Insert h k = absurd (clash (first_mark ws) _ _ (ap first_mark h.1) (ap first_mark k) refl)
one_of_words ws (Disable name) (Client slot' d) h k = absurd (apart ws slot' d _ k.1 (ap first_mark h.1) refl)
one_of_words ws (Disable name) (Dispatch slots') h k = absurd (clash (first_mark ws) _ _ (ap first_mark h.1) (ap first_mark k.1) refl)
one_of_words ws (Disable name) (Create name' version') h k = absurd (clash (first_mark ws) _ _ (ap first_mark h.1) (ap first_mark k.2) refl)
one_of_words ws (Disable name) (Disable name') h k = same_number name name' h.0 k.0 (ap (word_at 1) (sym h.1 ∙ k.1))
one_of_words ws (Disable name) (Remove name') h k = absurd (clash (first_mark ws) _ _ (ap first_mark h.1) (ap first_mark k.1) refl)
one_of_words ws (Disable name) Flush h k = absurd (clash (first_mark ws) _ _ (ap first_mark h.1) (ap first_mark k) refl)
one_of_words ws (Disable name) Cleanup h k = absurd (clash (first_mark ws) _ _ (ap first_mark h.1) (ap first_mark k) refl)
one_of_words ws (Disable name) Notes h k = absurd (clash (first_mark ws) _ _ (ap first_mark h.1) (ap first_mark k) refl)
one_of_words ws (Remove name) Insert h k = absurd (clash (first_mark ws) _ _ (ap first_mark h.1) (ap first_mark k) refl)
one_of_words ws (Remove name) (Client slot' d) h k = absurd (apart ws slot' d _ k.1 (ap first_mark h.1) refl)
one_of_words ws (Remove name) (Dispatch slots') h k = absurd (clash (first_mark ws) _ _ (ap first_mark h.1) (ap first_mark k.1) refl)
one_of_words ws (Remove name) (Create name' version') h k = absurd (clash (first_mark ws) _ _ (ap first_mark h.1) (ap first_mark k.2) refl)
one_of_words ws (Remove name) (Disable name') h k = absurd (clash (first_mark ws) _ _ (ap first_mark h.1) (ap first_mark k.1) refl)
one_of_words ws (Remove name) (Remove name') h k = same_number name name' h.0 k.0 (ap (word_at 1) (sym h.1 ∙ k.1))
one_of_words ws (Remove name) Flush h k = absurd (clash (first_mark ws) _ _ (ap first_mark h.1) (ap first_mark k) refl)
one_of_words ws (Remove name) Cleanup h k = absurd (clash (first_mark ws) _ _ (ap first_mark h.1) (ap first_mark k) refl)
one_of_words ws (Remove name) Notes h k = absurd (clash (first_mark ws) _ _ (ap first_mark h.1) (ap first_mark k) refl)
one_of_words ws Flush Insert h k = absurd (clash (first_mark ws) _ _ (ap first_mark h) (ap first_mark k) refl)
one_of_words ws Flush (Client slot' d) h k = absurd (apart ws slot' d _ k.1 (ap first_mark h) refl)
one_of_words ws Flush (Create name' version') h k = absurd (clash (first_mark ws) _ _ (ap first_mark h) (ap first_mark k.2) refl)
one_of_words ws Flush Flush h k = tt
one_of_words ws Flush Cleanup h k = absurd (clash (first_mark ws) _ _ (ap first_mark h) (ap first_mark k) refl)
one_of_words ws Flush Notes h k = absurd (clash (first_mark ws) _ _ (ap first_mark h) (ap first_mark k) refl)
one_of_words ws Cleanup Insert h k = absurd (clash (first_mark ws) _ _ (ap first_mark h) (ap first_mark k) refl)
one_of_words ws Cleanup (Client slot' d) h k = absurd (apart ws slot' d _ k.1 (ap first_mark h) refl)
one_of_words ws Cleanup (Create name' version') h k = absurd (clash (first_mark ws) _ _ (ap first_mark h) (ap first_mark k.2) refl)
one_of_words ws Cleanup Flush h k = absurd (clash (first_mark ws) _ _ (ap first_mark h) (ap first_mark k) refl)
one_of_words ws Cleanup Cleanup h k = tt
one_of_words ws Cleanup Notes h k = absurd (clash (first_mark ws) _ _ (ap first_mark h) (ap first_mark k) refl)
one_of_words ws Notes Insert h k = absurd (clash (first_mark ws) _ _ (ap first_mark h) (ap first_mark k) refl)
one_of_words ws Notes (Client slot' d) h k = absurd (apart ws slot' d _ k.1 (ap first_mark h) refl)
one_of_words ws Notes (Create name' version') h k = absurd (clash (first_mark ws) _ _ (ap first_mark h) (ap first_mark k.2) refl)
one_of_words ws Notes Flush h k = absurd (clash (first_mark ws) _ _ (ap first_mark h) (ap first_mark k) refl)
one_of_words ws Notes Cleanup h k = absurd (clash (first_mark ws) _ _ (ap first_mark h) (ap first_mark k) refl)
one_of_words ws Notes Notes h k = tt
one_of_words ws _ _ h k = absurd (clash (first_mark ws) _ _ (ap first_mark h) (ap first_mark k.1) refl)

-- a line is one command at most
pub one_of_line : (line : List ℕ) (c d : Command) → IsLine c line → IsLine d line → AskSame c d
one_of_line line c d h k = one_of_words (words line) c d h.1 k.1
