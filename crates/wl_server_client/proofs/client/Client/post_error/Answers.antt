use Rattle.std.proofs.Common.{◌≡◌, ◌∙◌, None, is_some, ap, ℕ, Bool, true, false, refl, sym, eq-eqb}
use Rattle.std.specs.Prelude.{◌↔◌, ◌==◌, IsTrue, if◌then◌else◌}
use Rattle.wl_link.proofs.Calls.Branches.{at_false}
use Rattle.wl_link.specs.Identity.{named_in}
use Rattle.wl_link.specs.Store.{held}
use Rattle.wl_server_client.specs.Errors.{PostsError, posts}
use Rattle.wl_server_client.specs.Part.{id_of, serial_of}
use Rattle.wl_server_client.specs.Telling.{core_of}
use Rattle.std.proofs.lemmas.Bool.{false≢true, ne_eqb}
use Rattle.wl_server_client.proofs.CallSteps.Doing.{does_quietly}
use Rattle.wl_server_client.proofs.Readings.Notes.{tells_carried}
use Rattle.wl_server_client.proofs.client.Client.post_error.Goals as goal

-- a test of null is the test of the number
null_is : (b : Bool) (n : ℕ) → (IsTrue b ↔ (n ≡ 0)) → (n == 0) ≡ b
null_is true n h = eq-eqb n 0 (h.0 refl)
null_is false n h = ne_eqb n 0 (λ zero. false≢true (h.1 zero))

pub returns-then-is_null-clause-does : goal.returns-then-is_null-clause-does
returns-then-is_null-clause-does g c =
    does_quietly c.args.self.now (λ p did q. PostsError g.T.Transport.sends c.args.protocol.now p c.args.id.now c.args.code c.args.text false did q)
    c.args.self.now.part (rw (null_is true _ c.if-is_null.ensures) (refl, refl, refl))

pub returns-clause-does : goal.returns-clause-does
returns-clause-does g c =
    let (did, q, does, is) = tells_carried g.T.Transport.sends (posts c.args.protocol.now (core_of c.args.self.now.part) c.args.id.now c.args.code
    c.args.text) c.args.self.now c.tell_error_and_kill.new.self c.tell_error_and_kill.result c.tell_error_and_kill.ensures.carried in
    (did, q, at_false _ _ (null_is false _ c.if-is_null.ensures) does, is)

pub returns-then-is_null-clause-exactly : goal.returns-then-is_null-clause-exactly
returns-then-is_null-clause-exactly g c = λ live kept. absurd (false≢true (sym (ap (λ (b : Bool). is_some (if b then None else named_in serial_of
    (id_of c.args.id.now) (held c.args.self.now.part.store c.args.id.now.number))) (null_is true _ c.if-is_null.ensures)) ∙ kept))
