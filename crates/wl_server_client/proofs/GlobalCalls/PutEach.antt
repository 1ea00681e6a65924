-- A message for each entry of a list, one after another.
use Rattle.std.proofs.Common.{◌≡◌, ◌<◌, ◌≤◌, ℕ, ◌+◌, List, [], ◌∷◌, length, map, take, drop, Result, Ok, Err, ◌≢◌, arith, inr, refl, true}
use Rattle.std.specs.Prelude.{get_or}
use Rattle.std.proofs.lemmas.List.{map-append, take-append-drop, take_all, take_more}
use Rattle.wl_wire.specs.declared.error.IoFault.{IoFault}
use Rattle.wl_wire.specs.declared.error.IoFault.TheVariants as fault
use Rattle.wl_wire.specs.Argument.{WireArgument}
use Rattle.wl_link.specs.Exchange.{Queue}
use Rattle.wl_link.specs.Identity.{Id}
use Rattle.wl_link.specs.Link.{LinkState, Wrote}
use Rattle.wl_link.specs.Puts.{Said}
use Rattle.wl_server_client.specs.Inside.Puts.{Puts}
use Rattle.wl_server_client.specs.Telling.{by_object}
use Rattle.wl_server_client.proofs.GlobalCalls.Putting.{puts_failed, puts_more, puts_none, puts_one}

module _ {T A : Type 0} (sends : T → Queue → Result ℕ IoFault → T → Type 0) (say : A → Said) where
  -- the messages for the first of them were all put
  abbrev pub PutsFirst : LinkState T → List A → ℕ → Result (Unit {0}) IoFault → LinkState T → Type 0
  PutsFirst before xs n answer after = Puts sends before (map say (take n xs)) answer after

  -- and so was the next
  pub first_more : (before mid after : LinkState T) (xs : List A) (n : ℕ) (x : A) (answer : Result (Unit {0}) IoFault) → n < length xs
      → x ≡ get_or xs n x
      → PutsFirst before xs n (Ok tt) mid → Wrote sends mid (say x).message answer after → PutsFirst before xs (n + 1) answer after
  first_more before mid after xs n x answer below here puts wrote =
      rw (take_more xs n x below, ← here, map-append)
      (puts_more sends before mid after (map say (take n xs)) (say x ∷ []) answer puts (puts_one sends mid after (say x) answer wrote))

  -- one of them failed
  pub first_failed : (before after : LinkState T) (xs : List A) (n : ℕ) (f : IoFault) → PutsFirst before xs n (Err f) after
      → Puts sends before (map say xs) (Err f) after
  first_failed before after xs n f puts =
      rw (← take-append-drop n xs, map-append) (puts_failed sends before after (map say (take n xs)) (map say (drop n xs)) f puts)

  -- they were all put
  pub first_all : (before after : LinkState T) (xs : List A) (n : ℕ) → length xs ≤ n → PutsFirst before xs n (Ok tt) after
      → Puts sends before (map say xs) (Ok tt) after
  first_all before after xs n end puts = grind (arith, map, take_all)

-- a message that an object was given as its sender
pub wrote_by : {T : Type 0} (sends : T → Queue → Result ℕ IoFault → T → Type 0) (before after : LinkState T) (r : Id) (number opcode opcode' : ℕ)
    (args args' : List WireArgument)
    (result answer : Result (Unit {0}) IoFault) → number ≡ r.number → opcode ≡ opcode' → args ≡ args' → result ≡ answer
    → Wrote sends before (record { sender = number; opcode = opcode; args = args }) result after
    → Wrote sends before (by_object r opcode' args').message answer after
wrote_by sends before after r number opcode opcode' args args' result answer by same_opcode same_args is wrote =
    rw (← by, ← same_opcode, ← same_args, ← is) wrote

-- there is no entry, or there was no memory for the text of the first message
module _ {T A : Type 0} (sends : T → Queue → Result ℕ IoFault → T → Type 0) (say : A → Said) where
  pub each_of_none : (link : LinkState T) (xs : List A) → length xs ≡ 0 → Puts sends link (map say xs) (Ok tt) link
  each_of_none link [] none = puts_none sends link
  each_of_none link (x ∷ xs) none = absurd (omega (arith, none))

  pub each_starved : (link : LinkState T) (xs : List A) → length xs ≢ 0 → ((x : A) (rest : List A) → xs ≡ x ∷ rest → (say x).makes_text ≡ true)
      → Puts sends link (map say xs) (Err fault.OutOfMemory) link
  each_starved link [] some texts = absurd (some refl)
  each_starved link (x ∷ xs) some texts =
      ([], [], ([], Err fault.OutOfMemory, link, inr (refl, refl, refl, texts x xs refl), (refl, refl, refl, refl)))
