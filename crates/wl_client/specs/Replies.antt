-- When two replies are the same, and when those of two runs are.
use Rattle.std.specs.Prelude.{◌≡◌, List, map}
use Rattle.wl_link.specs.Runs.{AllSame}
use Rattle.wl_link.specs.Script.{parcel}
use Rattle.wl_client.specs.declared.step.Reply.{Reply}
use Rattle.wl_client.specs.declared.step.Reply.TheVariants as reply
use Rattle.wl_client.specs.Reading.{event_content}

module _ {U : Type 0} where
  -- two replies are the same: their lists have the same items
  abbrev pub SameReply : Reply U → Reply U → Type 0
  SameReply (reply.NextEvent r) (reply.NextEvent r') = event_content r ≡ event_content r'
  SameReply (reply.TakeNotes notes) (reply.TakeNotes notes') = notes.items ≡ notes'.items
  SameReply (reply.TakeSent sent) (reply.TakeSent sent') = map parcel sent.items ≡ map parcel sent'.items
  SameReply r r' = r ≡ r'

  -- the lists are equally long, and the replies at each place are the same
  abbrev pub SameReplies : List (Reply U) → List (Reply U) → Type 0
  SameReplies replies replies' = AllSame SameReply replies replies'
