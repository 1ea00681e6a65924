-- A message that was taken off the link: how many arguments it has, and that it was there whole.
use Rattle.std.proofs.Common.{◌≡◌, ◌∙◌, suc, Bool, true, false, List, [], ◌∷◌, length, Option, None, Some, is_some, unwrap_or, Result, Ok, Err, is_ok, MatchBool, refl, sym, ap, subst, true≢false, ℕ}
use Rattle.wl_wire.specs.declared.argument.ArgumentType.{ArgumentType}
use Rattle.wl_wire.specs.declared.argument.Token.{Token}
use Rattle.wl_wire.specs.declared.error.MessageParseError.{MessageParseError}
use Rattle.wl_wire.specs.declared.error.MessageParseError.TheVariants as errors
use Rattle.wl_wire.specs.Argument.{WireArgument}
use Rattle.wl_wire.specs.Message.{WireMessage}
use Rattle.wl_wire.specs.Parse.{IsThere}
use Rattle.wl_wire.specs.Reading.{Reads as ReadsArgs}
use Rattle.wl_link.specs.Link.{LinkState, ReadOne, ReadFound}
use Rattle.wl_link.proofs.Calls.ReadLaws.{reads_enough}

-- ---- as many arguments as places

as_many_args : (signature : List ArgumentType) (args : List WireArgument) (payload : List ℕ) (fds : List Token)
    → ReadsArgs signature args payload fds → length args ≡ length signature
unfolding ReadsArgs
as_many_args [] [] payload fds r = refl
as_many_args [] (a ∷ args) payload fds r = absurd r
as_many_args (k ∷ signature) [] payload fds r = absurd r
as_many_args (k ∷ signature) (a ∷ args) payload fds (piece, rest, others, whole, tokens, is, r) = ap suc (as_many_args signature args rest others r)

as_many_found : {T : Type 0} (signature : List ArgumentType) (found : Option (List ArgumentType)) (before : LinkState T) (m : WireMessage) (after : LinkState T)
    → found ≡ Some signature → ReadFound found before (Ok m) after → length m.args ≡ length signature
as_many_found signature None before m after is read = absurd (some_none is)
  where
    some_none : None ≡ Some signature → ⊥
    some_none e = true≢false (sym (ap is_some e))
as_many_found signature (Some s) before m after is read =
    as_many_args s m.args _ _ (read.0.args) ∙ ap length (some_is is)
  where
    some_is : Some s ≡ Some signature → s ≡ signature
    some_is e = ap (λ o. unwrap_or o s) e

abbrev ok_answer : WireMessage → Result WireMessage MessageParseError
ok_answer m = Ok m

as_many_at : {T : Type 0} (b : Bool) (signature : List ArgumentType) (before : LinkState T) (m : WireMessage) (after : LinkState T)
    → MatchBool b ((found : Option (List ArgumentType)) × (found ≡ Some signature) × ReadFound found before (Ok m) after)
    ((ok_answer m ≡ Err errors.MissingData) × (after ≡ before))
    → length m.args ≡ length signature
as_many_at true signature before m after (found, is, read) = as_many_found signature found before m after is read
as_many_at false signature before m after (answer, same) = absurd (ok_err answer)
  where
    ok_err : ok_answer m ≡ Err errors.MissingData → ⊥
    ok_err e = true≢false (ap is_ok e)

pub as_many : {T : Type 0} (signature : List ArgumentType) (before : LinkState T) (m : WireMessage) (after : LinkState T)
    → ReadOne (λ _ _ found. found ≡ Some signature) before (Ok m) after → length m.args ≡ length signature
as_many signature before m after read = as_many_at _ signature before m after read

-- ---- a message that is read is there whole

there_found : {T : Type 0} (signature : List ArgumentType) (found : Option (List ArgumentType)) (before : LinkState T) (m : WireMessage) (after : LinkState T)
    → found ≡ Some signature → ReadFound found before (Ok m) after → IsThere before.incoming.bytes signature before.incoming.tokens
there_found signature None before m after is read = absurd (true≢false (sym (ap is_some is)))
there_found signature (Some s) before m after is read =
    subst (λ (k : List ArgumentType). IsThere before.incoming.bytes k before.incoming.tokens) (ap (λ o. unwrap_or o s) is)
    (read.0.whole, reads_enough s m.args _ _ read.0.args)

there_at : {T : Type 0} (b : Bool) (signature : List ArgumentType) (before : LinkState T) (m : WireMessage) (after : LinkState T)
    → MatchBool b ((found : Option (List ArgumentType)) × (found ≡ Some signature) × ReadFound found before (Ok m) after)
    ((ok_answer m ≡ Err errors.MissingData) × (after ≡ before))
    → IsThere before.incoming.bytes signature before.incoming.tokens
there_at true signature before m after (found, is, read) = there_found signature found before m after is read
there_at false signature before m after (answer, same) = absurd (true≢false (ap is_ok answer))

pub read_there : {T : Type 0} (signature : List ArgumentType) (before : LinkState T) (m : WireMessage) (after : LinkState T)
    → ReadOne (λ _ _ found. found ≡ Some signature) before (Ok m) after → IsThere before.incoming.bytes signature before.incoming.tokens
read_there signature before m after read = there_at _ signature before m after read
