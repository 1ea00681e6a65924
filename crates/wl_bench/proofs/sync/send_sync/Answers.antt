use Rattle.std.proofs.Common.{◌≡◌, List, ◌++◌, ◌∷◌, [], refl, ap, ◌∙◌}
use Rattle.wl_wire.specs.Table.{fixed_rows}
use Rattle.wl_wire.specs.declared.argument.Argument.{Argument}
use Rattle.wl_wire.specs.declared.argument.Argument.TheVariants as arg
use Rattle.wl_wire.specs.declared.argument.Token.{Token}
use Rattle.wl_client.specs.ObjectId.{IdParts}
use Rattle.wl_client.specs.Requests.{SessionMessage}
use Rattle.wl_bench.proofs.FirstSync.{first_sync, fresh_script, sync_message}
use Rattle.wl_bench.proofs.sync.send_sync.Goals as goal

pub returns-clause-ok : goal.returns-clause-ok
returns-clause-ok c =
    let args : c.push.new.self.items ≡ sync_message.args
    = c.in_ok-push.ensures.ok
    ∙ ap (λ (xs : List (Argument IdParts Token)). xs ++ arg.NewId c.null.result ∷ []) c.new-args.ensures.items
    ∙ ap (λ (id : IdParts). arg.NewId id ∷ []) c.null.ensures in
    let message : ◌≡◌ {A = SessionMessage} (record { sender = c.display_id.result; opcode = 0; args = c.push.new.self.items }) sync_message
    = ap (λ (id : IdParts). record sync_message { sender = id; args = c.push.new.self.items }) c.display_id.ensures
    ∙ ap (λ (xs : List (Argument IdParts Token)). record sync_message { args = xs }) args in
    λ fresh. first_sync fixed_rows fresh_script _ _ _ _ _ _ refl refl message fresh c.in_ok-_callback.ensures.requested c.in_ok-flush.ensures.flushed
