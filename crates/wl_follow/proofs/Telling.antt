-- What is told of the front of a side, by what was read there and what became of it.
use Rattle.std.specs.Prelude.{◌≡◌, ℕ, ◌<◌, ◌≤◌, List, [], ◌∷◌, ◌++◌, IfOk, length, MatchOption, None, Ok, Err, Option, Result, Some}
use Rattle.std.proofs.Common.{ap, inl, inr, refl, subst, sym, ◌∙◌}
use Rattle.wl_wire.specs.declared.argument.ArgumentType.{ArgumentType}
use Rattle.wl_wire.specs.declared.error.OutOfMemory.{OutOfMemory}
use Rattle.wl_wire.specs.Message.{WireMessage}
use Rattle.wl_wire.specs.Parse.{opcode_of, sender_of}
use Rattle.wl_wire.specs.Table.{InterfaceRow, MessageRow}
use Rattle.wl_link.specs.declared.object.Object.{Object}
use Rattle.wl_link.specs.Exchange.{Queue, nothing}
use Rattle.wl_link.specs.Store.{Store}
use Rattle.wl_follow.specs.Following.{FollowState, HasNoneToTell, IsExhausted, Tells, TellsFront, Turns, sent, turned, with_sent}
use Rattle.wl_follow.specs.Fronts.{HasNoMessage, IsUnknown, ReadsKnown}
use Rattle.wl_follow.specs.Inside.Telling.{TellsOf, TellsUnknown}
use Rattle.wl_follow.specs.Objects.{NotesObjects}
use Rattle.wl_follow.specs.Sent.{SentState, first_piece, ready_part, without_first}
use Rattle.wl_follow.specs.declared.follower.Stretch.{Stretch}
use Rattle.wl_follow.specs.declared.follower.Told.{Told}
use Rattle.wl_follow.specs.declared.follower.What.{What}
use Rattle.wl_follow.specs.declared.follower.What.TheVariants as what
use Rattle.wl_follow.specs.declared.front.NoMessage.TheVariants as none
use Rattle.wl_follow.specs.declared.objects.Deletions.TheVariants.{Unseen}
use Rattle.wl_follow.specs.declared.objects.UnknownInterfaces.TheVariants.{Anonymous}
use Rattle.wl_follow.specs.declared.side.Fault.{Fault}
use Rattle.wl_follow.specs.declared.side.Side.{Side}
use Rattle.wl_follow.specs.declared.side.Side.TheVariants.{Client, Server}

module _ (table : List InterfaceRow) (side : Side) (objects : Store (Unit {0})) (s : SentState) where
  -- a message that was read, and whose objects were noted
  pub message_told : (object : Object (Unit {0})) (row : MessageRow) (m : WireMessage) (f : Option Fault) (objects' : Store (Unit {0})) (signature : List ArgumentType)
      (s' : SentState) → ReadsKnown table objects side (ready_part s) object row m → f ≡ None → NotesObjects table Anonymous side Unseen object row m objects f objects'
      → signature ≡ row.signature → s' ≡ without_first signature s
      → (piece : Queue) × TellsFront table side objects s (what.Message object.interface) m piece objects' s'
  message_told object row m f objects' signature s' read none_is noted under is = (
    first_piece row.signature s,
    (
      object,
      row,
      read,
      refl,
      subst (λ (x : Option Fault). NotesObjects table Anonymous side Unseen object row m objects x objects') none_is noted,
      refl,
      is ∙ ap (λ (x : List ArgumentType). without_first x s) under,
    ),
  )

  -- a message of an object that is not known
  module _ (sender opcode : ℕ) (found : HasNoMessage table objects side (ready_part s) (none.Unknown sender opcode)) where
    unknown_here : IsUnknown table objects side (sender_of (ready_part s).bytes) (opcode_of (ready_part s).bytes)
    unknown_here =
        subst (λ (n : ℕ). IsUnknown table objects side n (opcode_of (ready_part s).bytes)) found.1
        (subst (λ (n : ℕ). IsUnknown table objects side sender n) found.2 found.3)

    unknown_as : (a b : ℕ) → a ≡ sender → b ≡ opcode → IsUnknown table objects side a b
    unknown_as a b same_sender same_opcode =
        subst (λ (n : ℕ). IsUnknown table objects side n b) (sym same_sender)
        (subst (λ (n : ℕ). IsUnknown table objects side sender n) (sym same_opcode) found.3)

    pub unknown_told : (m : WireMessage) (r : Option What) (s' : SentState) → TellsUnknown sender opcode s r s'
        → MatchOption r (HasNoneToTell table side objects s × (objects ≡ objects) × (s' ≡ s)) (λ w. (piece : Queue) × TellsFront table side objects s w m piece objects s')
    unknown_told m None s' tells = (inr (inl (unknown_here, tells.1)), refl, tells.0)
    unknown_told m (Some (what.Unknown a b)) s' tells =
        (first_piece [] s, (tells.2, tells.0 ∙ found.1, tells.1 ∙ found.2, unknown_as a b tells.0 tells.1, refl, refl, tells.3))
    unknown_told m (Some what.Malformed) s' tells = (nothing, ((found.0, inl (unknown_here, tells.0)), refl, refl, tells.1))
    unknown_told m (Some (what.Message interface)) s' tells = absurd tells
    unknown_told m (Some (what.Refused interface fault)) s' tells = absurd tells

-- the same of a source that was read and not changed
pub unknown_read : (table : List InterfaceRow) (side : Side) (objects : Store (Unit {0})) (s s1 : SentState) (sender opcode : ℕ) (m : WireMessage) (r : Option What)
    (s' : SentState) → s1 ≡ s → HasNoMessage table objects side (ready_part s) (none.Unknown sender opcode) → TellsUnknown sender opcode s1 r s'
    → MatchOption r (HasNoneToTell table side objects s × (objects ≡ objects) × (s' ≡ s)) (λ w. (piece : Queue) × TellsFront table side objects s w m piece objects s')
unknown_read table side objects s s1 sender opcode m r s' same found tells =
    unknown_told table side objects s sender opcode found m r s' (subst (λ (x : SentState). TellsUnknown sender opcode x r s') same tells)

-- ---- the side

with_own : (side : Side) (f : FollowState) → with_sent side (sent side f) f ≡ f
with_own Client f = refl
with_own Server f = refl

module _ (table : List InterfaceRow) where
  of_turn : (side : Side) (f after : FollowState) (s' : SentState) (objects' : Store (Unit {0})) (told : Option What) (m : WireMessage)
      → after ≡ with_sent side s' (record f { objects = objects' })
      → MatchOption told (HasNoneToTell table side f.objects (sent side f) × (objects' ≡ f.objects) × (s' ≡ sent side f))
      (λ w. (piece : Queue) × TellsFront table side f.objects (sent side f) w m piece objects' s')
      → MatchOption told (HasNoneToTell table side f.objects (sent side f) × (after ≡ f)) (λ w. TellsOf table side f w m after)
  of_turn side f after s' objects' None m is none_told = (
    none_told.0,
    is ∙ ap (λ (o : Store (Unit {0})). with_sent side s' (record f { objects = o })) none_told.1
        ∙ ap (λ (s : SentState). with_sent side s f) none_told.2 ∙ with_own side f,
  )
  of_turn side f after s' objects' (Some w) m is (piece, tells) = (piece, objects', s', tells, is)

  pub side_told : (side turn : Side) (f after : FollowState) (s' : SentState) (objects' : Store (Unit {0})) (r : Result (Option What) OutOfMemory) (m : WireMessage)
      → side ≡ turn → after ≡ with_sent turn s' (record f { objects = objects' })
      → IfOk r (λ told. MatchOption told (HasNoneToTell table side f.objects (sent turn f) × (objects' ≡ f.objects) × (s' ≡ sent turn f))
      (λ w. (piece : Queue) × TellsFront table side f.objects (sent turn f) w m piece objects' s'))
      → IfOk r (λ told. MatchOption told (HasNoneToTell table side f.objects (sent side f) × (after ≡ f)) (λ w. TellsOf table side f w m after))
  side_told side turn f after s' objects' (Err e) m is after_is tells = tt
  side_told side turn f after s' objects' (Ok told) m is after_is tells =
      of_turn side f after s' objects' told m
      (after_is ∙ ap (λ (x : Side). with_sent x s' (record f { objects = objects' })) (sym is))
      (subst
      (λ (x : Side). MatchOption told (HasNoneToTell table side f.objects (sent x f) × (objects' ≡ f.objects) × (s' ≡ sent x f))
      (λ w. (piece : Queue) × TellsFront table side f.objects (sent x f) w m piece objects' s')) (sym is) tells)

  -- it is told with no turn before
  pub told_at_once : (f after : FollowState) (w : What) (m : WireMessage) → TellsOf table f.side f w m after
      → (piece : Queue) × Tells table f (record { side = f.side; what = w }) m piece after
  told_at_once f after w m (piece, objects, left, front, is) = (
    piece,
    record { stretches = []; mid = f; objects = objects; left = left; turns = refl; side = refl; front = front; after_is = is },
  )
