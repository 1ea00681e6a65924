-- Which steps of a run are made by which calls.
use Rattle.wl_server_model.specs.declared.step.Step.{Step}
use Rattle.wl_server_model.specs.declared.step.Step.TheVariants as step

module _ {T U G C : Type 0} where
  -- it is about one object
  abbrev pub IsOfObject : Step T U G C → Type 0
  IsOfObject (step.SetObjectData o u) = Unit {0}
  IsOfObject (step.SetObjectVersion o version) = Unit {0}
  IsOfObject (step.CreateObject target i version u) = Unit {0}
  IsOfObject (step.CreateObjectAt target i version n u) = Unit {0}
  IsOfObject (step.DestroyObject o) = Unit {0}
  IsOfObject (step.SendEvent m) = Unit {0}
  IsOfObject (step.PostError o code text) = Unit {0}
  IsOfObject _ = ⊥

  -- it reads a client, or ends its action
  abbrev pub IsOfReading : Step T U G C → Type 0
  IsOfReading (step.NextAction target) = Unit {0}
  IsOfReading (step.NextActionWithin target reading) = Unit {0}
  IsOfReading (step.FinishRequest target u) = Unit {0}
  IsOfReading (step.FinishBind target u) = Unit {0}
  IsOfReading _ = ⊥

  -- it is about globals, or kills or limits a client
  abbrev pub IsOfGlobals : Step T U G C → Type 0
  IsOfGlobals (step.CreateGlobal i version handler) = Unit {0}
  IsOfGlobals (step.DisableGlobal g) = Unit {0}
  IsOfGlobals (step.RemoveGlobal g) = Unit {0}
  IsOfGlobals (step.KillClient target reason) = Unit {0}
  IsOfGlobals (step.SetClientMaxBufferSize target limit) = Unit {0}
  IsOfGlobals _ = ⊥

  -- it is about all clients, or a new one
  abbrev pub IsOfAll : Step T U G C → Type 0
  IsOfAll (step.InsertClient transport client_data) = Unit {0}
  IsOfAll (step.Flush target) = Unit {0}
  IsOfAll (step.SetDefaultMaxBufferSize limit) = Unit {0}
  IsOfAll (step.KeepGlobalNames keep) = Unit {0}
  IsOfAll (step.SetObjectLimit limit) = Unit {0}
  IsOfAll (step.HandOutRegistries hands) = Unit {0}
  IsOfAll step.Cleanup = Unit {0}
  IsOfAll step.TakeNotes = Unit {0}
  IsOfAll _ = ⊥
