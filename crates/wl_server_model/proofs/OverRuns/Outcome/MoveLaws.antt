-- When the answers of a transport follow from its value; and that they do over transports by script.
use Rattle.std.specs.Prelude.{◌≡◌, false}
use Rattle.wl_link.specs.Exchange.{IsFunction, IsReceiveFunction, Queue}
use Rattle.wl_server_model.specs.Moves.{Move, Moved}
use Rattle.wl_server_model.specs.PartStep.{World, lacks_move, over, over_scripts}
use Rattle.std.proofs.Common.{ℕ, Result, true≢false, arith}
use Rattle.wl_wire.specs.declared.error.IoFault.{IoFault}
use Rattle.wl_link.proofs.Calls.OneScript.{script_receives_function, script_sends_function}
use Rattle.wl_server_client.specs.Ids.{ClientParts, GlobalParts}

-- two moves of one kind, neither refused for want of memory, have one answer and leave one value
abbrev pub IsMoveFunction : {T : Type 0} → (T → Move → Moved → T → Type 0) → Type 0
IsMoveFunction {T = T} moves =
    (before : T) (m : Move) (one two : Moved) (after after' : T)
    → moves before m one after → moves before m two after' → lacks_move one ≡ false → lacks_move two ≡ false → (one ≡ two) × (after ≡ after')

-- what a transport answers and becomes follows from its value
pub record IsDetermined {T G C : Type 0} (w : World T G C) : Type 0 where
  pub sends : IsFunction w.sends
  pub receives : IsReceiveFunction w.receives
  pub moves : IsMoveFunction w.moves

-- so all that stands outside a server over scripts is determined
pub scripts_determined : {G C : Type 0} (views : G → ClientParts → C → GlobalParts → _) → IsDetermined (over_scripts {G = G} {C = C} views)
scripts_determined views = record { sends = script_sends_function; receives = script_receives_function; moves = (grind (arith, true≢false)) }

-- and what stands outside one over another transport, where its sends and receives are
pub transport_determined : {T G C : Type 0} (sends : T → Queue → Result ℕ IoFault → T → Type 0) (receives : T → ℕ → Result Queue IoFault → T → Type 0)
    (views : G → ClientParts → C → GlobalParts → _) → IsFunction sends → IsReceiveFunction receives
    → IsDetermined (over {T = T} {G = G} {C = C} sends receives views)
transport_determined sends receives views function receive_function = grind (arith)
