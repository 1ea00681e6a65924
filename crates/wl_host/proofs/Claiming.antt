-- An object that the host claims: once its version is set its data are not refused, and after an error nothing is changed.
use Rattle.std.proofs.Common.{◌≡◌, ◌∙◌, ℕ, false, None, Some, Result, Ok, Err, is_some, refl, ap, sym, subst, true≢false}
use mathlib.Core.Logic.{inl, inr}
use Rattle.std.specs.Prelude.{IfErr, MatchResult}
use Rattle.std.specs.Result.{is_err}
use Rattle.wl_link.specs.declared.object.Object.{Object}
use Rattle.wl_server_client.specs.Ids.{IdParts}
use Rattle.wl_server_client.specs.Part.{with_user_data}
use Rattle.wl_server_client.specs.declared.error.CreateAtError.{CreateAtError}
use Rattle.wl_server_client.specs.declared.error.CreateError.{CreateError}
use Rattle.wl_server_client.specs.declared.error.InvalidId.{InvalidId}
use Rattle.wl_server_client.specs.declared.error.VersionError.{VersionError}
use Rattle.wl_server_client.specs.declared.error.VersionError.TheVariants as wrong
use Rattle.wl_server_client.specs.declared.objects.Kept.{Kept}
use Rattle.wl_server_model.specs.Backend.{Calls}
use Rattle.wl_server_model.specs.Plain.{CreatedAs, IsUnchanged, object_in}
use Rattle.wl_server_model.specs.Plain.Chosen.{VersionSetAs}
use Rattle.wl_server_model.specs.declared.step.Reply.TheVariants as reply
use Rattle.wl_server_model.specs.declared.step.Step.TheVariants as step
use Rattle.wl_server_model.proofs.Plain.Base.{split_bool}
use Rattle.wl_server_model.proofs.Plain.Chosen.{creates_object_at, sets_object_version}
use Rattle.wl_server_model.proofs.Plain.Objects.{creates_object, sets_object_data}
use Rattle.wl_host.specs.Calls.{CoreState, CreatesObject, interface_of, of_invalid, status_by, world}
use Rattle.wl_host.specs.Chosen.{CreatesObjectAt, SetsObjectVersion, TakesObject}
use Rattle.wl_flat.specs.Flat.{client_of, flat_resource, resource_of}
use Rattle.wl_flat.specs.Status.{flattened, is_done, of_create, of_create_at, of_version}
use Rattle.wl_flat.specs.declared.flat.FlatClientId.{FlatClientId}
use Rattle.wl_flat.specs.declared.flat.FlatObjectId.{FlatObjectId}
use Rattle.wl_flat.specs.declared.status.Status.{Status}
use Rattle.wl_flat.specs.declared.status.Status.TheVariants as status

-- ---- the object is taken

-- an object that got a version is there, so that it gets the data
data_given : (b m a : CoreState) (o : IdParts) (version u : ℕ) (r : Result (Unit {0}) VersionError) (g : Result (Unit {0}) InvalidId) → is_err r ≡ false
    → VersionSetAs b o version r m
    → MatchResult g (λ _. (x : Object (Kept ℕ)) × (object_in m o ≡ Some x) × (object_in a o ≡ Some (with_user_data u x)))
    (λ _. (object_in m o ≡ None) × IsUnchanged m a)
    → status.Ok ≡ status_by of_invalid g
data_given b m a o version u r (Ok t) done set given = refl
data_given b m a o version u (Ok t) (Err e) done (x, there, has, set) given = absurd (true≢false (ap is_some (sym set ∙ given.0)))
data_given b m a o version u (Err e) (Err f) done set given = absurd (true≢false done)

version_done : (r : Result (Unit {0}) VersionError) → is_err r ≡ false → status.Ok ≡ status_by of_version r
version_done (Ok t) done = refl
version_done (Err e) done = absurd (true≢false done)

pub takes : (b m a : CoreState) (o : FlatObjectId) (version u : ℕ) (r : Result (Unit {0}) VersionError) (g : Result (Unit {0}) InvalidId) → is_err r ≡ false
    → Calls world b (step.SetObjectVersion (resource_of o) version) (reply.SetObjectVersion r) m
    → Calls world m (step.SetObjectData (resource_of o) u) (reply.SetObjectData g) a
    → TakesObject b o version u (Ok o) a
takes b m a o version u r g done set give =
    let id = resource_of o in
    let given =
    data_given b m a id version u r g done (sets_object_version id version r set).object (sets_object_data id u g give).object in
    (status.Ok, m, (r, set, version_done r done), (refl, (g, give, given)))

-- the version is refused
pub takes_not : (b m : CoreState) (o : FlatObjectId) (version u : ℕ) (e : VersionError)
    → Calls world b (step.SetObjectVersion (resource_of o) version) (reply.SetObjectVersion (Err e)) m
    → TakesObject b o version u (Err (of_version e)) m
takes_not b m o version u wrong.InvalidId set = (status.InvalidId, m, (Err wrong.InvalidId, set, refl), (refl, refl))
takes_not b m o version u wrong.UnknownVersion set = (status.VersionTooHigh, m, (Err wrong.UnknownVersion, set, refl), (refl, refl))

-- ---- after an error nothing is changed

-- the answer of the call
abbrev Answer : Type 0
Answer = Result FlatObjectId Status

abbrev Refused : CoreState → CoreState → Answer → Type 0
Refused b a result = IfErr result (λ _. IsUnchanged b a)

pub created_refused : (b a : CoreState) (client : FlatClientId) (i version u : ℕ) (result : Answer) → CreatesObject b client i version u result a → Refused b a result
created_refused b a client i version u result (answer, call, is) =
    subst (Refused b a) (sym is) (by answer (creates_object (client_of client) (interface_of i) version u answer call).object)
  where
    by : (r : Result IdParts CreateError) → CreatedAs b (client_of client) (interface_of i) version u r a → Refused b a (flattened flat_resource of_create r)
    by (Ok id) made = tt
    by (Err f) same = same

pub created_at_refused : (b a : CoreState) (client : FlatClientId) (i version n u : ℕ) (result : Answer) → CreatesObjectAt b client i version n u result a → Refused b a result
created_at_refused b a client i version n u result (answer, call, is) =
    subst (Refused b a) (sym is) (by answer (creates_object_at (client_of client) (interface_of i) version n u answer call).object)
  where
    by : (r : Result IdParts CreateAtError) → CreatedAs b (client_of client) (interface_of i) version u r a → Refused b a (flattened flat_resource of_create_at r)
    by (Ok id) made = tt
    by (Err f) same = same

version_refused : (b m : CoreState) (o : FlatObjectId) (version : ℕ) (s : Status) → is_done s ≡ false → SetsObjectVersion b o version s m → IsUnchanged b m
version_refused b m o version s off (answer, call, is) = by answer is (sets_object_version (resource_of o) version answer call).object
  where
    by : (r : Result (Unit {0}) VersionError) → s ≡ status_by of_version r → VersionSetAs b (resource_of o) version r m → IsUnchanged b m
    by (Ok t) e set = absurd (true≢false (sym (ap is_done e) ∙ off))
    by (Err wrong.InvalidId) e (none, same) = same
    by (Err wrong.UnknownVersion) e (x, there, lacks, same) = same

pub taken_refused : (b a : CoreState) (o : FlatObjectId) (version u : ℕ) (result : Answer) → TakesObject b o version u result a → Refused b a result
taken_refused b a o version u result (s, mid, set, by) =
    elim (split_bool (is_done s) by) [
      | inl (on, given) ↦ subst (Refused b a) (sym given.0) tt
      | inr (off, refused) ↦
          subst (Refused b a) (sym refused.0) (subst (λ (c : CoreState). IsUnchanged b c) (sym refused.1) (version_refused b mid o version s off set))
    ]
