-- An object's data are set at a client that is stored.
use Rattle.std.proofs.Common.{arith, ◌≡◌, false, Result, Ok, Err, MatchOption, refl}
use Rattle.wl_link.specs.Store.{Store}
use Rattle.wl_server_client.specs.declared.error.InvalidId.{InvalidId}
use Rattle.wl_server_client.specs.declared.objects.Kept.{Kept}
use Rattle.wl_server_client.specs.Inside.Client.{Does}
use Rattle.wl_server_client.specs.Finish.{data_given}
use Rattle.wl_server_client.specs.Ids.{IdParts}
use Rattle.wl_server_client.specs.Objects.{DataSet}
use Rattle.wl_server_client.specs.Part.{named}
use Rattle.wl_server_model.specs.PartStep.{Quietly}
use Rattle.wl_server_client.specs.Stored.{Stored, no_times}
use Rattle.wl_server_client.proofs.CallSteps.Doing.{does_quietly}
use Rattle.wl_server_model.proofs.CallSteps.Slots.{Kind}

abbrev pub sets : {T U C : Type 0} → IdParts → U → Result (Unit {0}) InvalidId → Kind T U C
sets o u answer id p lacked did q = Quietly lacked did (DataSet p o u answer q)

pub set_does : {T U C : Type 0} (s : Stored T U C) (id : IdParts) (u : U) (answer : Result (Unit {0}) InvalidId) (store : Store (Kept U))
    → MatchOption (named s.part.store id) (answer ≡ Err _) (λ _. answer ≡ Ok tt) → store ≡ data_given s.part.store id.number (named s.part.store id) u
    → Does s (λ p did q. Quietly false did (DataSet p id u answer q))
    (record { serial = s.serial; part = record s.part { store = store }; made = s.made; times = no_times })
set_does s id u answer store answered given = does_quietly s (λ p did q. Quietly false did (DataSet p id u answer q)) _ (refl, refl, grind (arith))
