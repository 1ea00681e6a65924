use Rattle.std.specs.Prelude.{◌≡◌, ◌≢◌, List, Result, Ok, Err, OnOk, OnErr, IfErr, ℕ}
use Rattle.wl_wire.specs.declared.argument.ArgumentType.{ArgumentType}
use Rattle.wl_wire.specs.declared.argument.Token.{Token}
use Rattle.wl_wire.specs.declared.error.MessageParseError.{MessageParseError}
use Rattle.wl_wire.specs.declared.error.MessageParseError.TheVariants as errors
use Rattle.wl_wire.specs.declared.message.Message.{Message}
use Rattle.wl_wire.specs.Message.{content}
use Rattle.wl_wire.specs.Parse.{IsInline, ReadsMessage, RefusesMessage}
use Rattle.wl_link.specs.Link.{LinkState, ReadUnder, after_first, read_into, with_incoming}
use Rattle.wl_link.proofs.Calls.ReadLaws.{reads_under}
use Rattle.wl_link.proofs.buffered_socket.BufferedSocket.read_with_signature.Goals as goal

under : {T : Type 0} (signature : List ArgumentType) (before after : LinkState T) (message : Message ℕ Token) (r : Result (Unit {0}) MessageParseError)
    → OnOk r (ReadsMessage before.incoming.bytes signature before.incoming.tokens (content message))
    → OnOk r (after ≡ with_incoming before before.transport (after_first signature before.incoming))
    → IfErr r (RefusesMessage before.incoming.bytes signature before.incoming.tokens)
    → (IsInline signature → IfErr r (λ e. e ≢ errors.OutOfMemory)) → OnErr r (after ≡ before)
    → ReadUnder signature before (read_into r message) after
under signature before after message (Ok _) found taken refused small unchanged = (found, taken)
under signature before after message (Err e) found taken refused small unchanged = (refused, small, unchanged)

pub returns-clause-read : goal.returns-clause-read
returns-clause-read g c =
    reads_under c.args.signature.now c.args.self.now c.read_under.new.self _
    (under c.args.signature.now c.args.self.now c.read_under.new.self c.read_under.new.message c.read_under.result
    c.read_under.ensures.found c.read_under.ensures.taken c.read_under.ensures.refused c.read_under.ensures.small c.read_under.ensures.unchanged)
