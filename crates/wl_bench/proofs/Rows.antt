-- Lines and words, computed from the definitions.
use Rattle.std.proofs.Common.{◌≡◌, [], ◌∷◌, ◌++◌, ℕ, String, Global, Some, None, true, false, lit≤, lit<, refl, codes, string_bytes, pos, negsuc}
use Rattle.std.specs.Fmt.{digits}
use Rattle.std.proofs.lemmas.List.Elements.{All-cons, All-nil}
use Rattle.wl_bench.specs.Answers.{action_text, bind_text, client_text, destroyed_text, sent_text}
use Rattle.wl_bench.specs.Commands.{AreBytes, AreNumbers, IsByte, IsCommand, words}
use Rattle.wl_bench.specs.Record.{lines, recording_of}
use Rattle.wl_bench.specs.declared.command.ClientCommand.TheVariants.{Read, Finish, FailIn, FailOut}
use Rattle.wl_bench.specs.declared.command.Command.TheVariants.{Insert, Client, Create, Flush, Notes}
use Rattle.wl_wire.specs.declared.argument.Argument.TheVariants as arg
use Rattle.wl_wire.specs.declared.error.IoFault.TheVariants.{WouldBlock, Other}
use Rattle.wl_wire.specs.Table.{anonymous_id}
use Rattle.wl_server_client.specs.Deeds.{Request}
use Rattle.wl_server_client.specs.Ids.{IdParts}

-- ---- lines that are commands

row_client : IsCommand Insert (words (codes "client"))
row_client = refl

row_flush : IsCommand Flush (words (codes "flush"))
row_flush = refl

row_notes : IsCommand Notes (words (codes "notes"))
row_notes = refl

row_read : IsCommand (Client 0 Read) (words (codes "read 0"))
unfolding digits
row_read = (lit≤ tt, refl)

row_finish : IsCommand (Client 4294967295 Finish) (words (codes "finish 4294967295"))
unfolding digits
row_finish = (lit≤ tt, refl)

row_global : (name : String Global) → string_bytes name ≡ codes "quad" → IsCommand (Create name 3) (words (codes "global quad 3"))
unfolding digits
row_global name e = (lit≤ tt, rw e (lit≤ tt), rw e)

row_bytes : AreBytes (1 ∷ 0 ∷ 0 ∷ 171 ∷ []) (codes "010000ab")
row_bytes = (
  All-cons IsByte 1 (0 ∷ 0 ∷ 171 ∷ []) (lit< tt)
      (All-cons IsByte 0 (0 ∷ 171 ∷ []) (lit< tt) (All-cons IsByte 0 (171 ∷ []) (lit< tt) (All-cons IsByte 171 [] (lit< tt) (All-nil IsByte)))),
  refl,
)

row_no_bytes : AreBytes [] (codes "-")
row_no_bytes = refl

row_numbers : AreNumbers (7 ∷ 0 ∷ 29 ∷ []) (codes "7,0,29")
unfolding digits
row_numbers = ((lit≤ tt, refl), ((lit≤ tt, refl), ((lit≤ tt, refl), tt)))

row_fail_in : IsCommand (Client 0 (FailIn (Other (pos 5)))) (words (codes "fail 0 in Other"))
unfolding digits
row_fail_in = (lit≤ tt, (codes "Other", refl, (refl, refl)))

row_fail_out : IsCommand (Client 0 (FailOut WouldBlock)) (words (codes "fail 0 out WouldBlock"))
unfolding digits
row_fail_out = (lit≤ tt, (codes "WouldBlock", refl, refl))

-- two spaces in a row leave an empty word between them
row_empty_word : words (codes "read  0") ≡ codes "read" ∷ [] ∷ codes "0" ∷ []
row_empty_word = refl

-- two line feeds in a row leave an empty line between them, and one at the end leaves none behind it
row_lines : lines (codes "flush" ++ 10 ∷ 10 ∷ codes "x") ≡ codes "flush" ∷ [] ∷ codes "x" ∷ []
row_lines = refl

row_last_line : lines (codes "flush" ++ 10 ∷ []) ≡ codes "flush" ∷ []
row_last_line = refl

-- ---- lines that are printed

abbrev object : ℕ → IdParts
object n = record { number = n; serial = 9; client = record { slot = 0; serial = 1 }; interface = anonymous_id }

row_inserted : client_text (record { slot = 0; serial = 1 }) ≡ codes "client 0 1"
unfolding digits
row_inserted = refl

row_destroy : action_text (Request (object 3) 2 [] true None) ≡ codes "request 3 2 [] destructor=1 created=-"
unfolding digits
row_destroy = refl

row_give : action_text (Request (object 3) 4 (arg.Str None ∷ arg.Array (1 ∷ []) ∷ arg.Fd (record { 0 = pos 7 }) ∷ []) false None)
    ≡ codes "request 3 4 [str:null array:01 fd:7] destructor=0 created=-"
unfolding digits
row_give = refl

row_poke : action_text (Request (object 3) 0 (arg.Int (negsuc 24) ∷ []) false None) ≡ codes "request 3 0 [int:-25] destructor=0 created=-"
unfolding digits
row_poke = refl

row_make : action_text (Request (object 3) 1 (arg.NewId (object 4) ∷ []) false (Some (object 4))) ≡ codes "request 3 1 [new:4] destructor=0 created=4"
unfolding digits
row_make = refl

row_bind : bind_text (record { name = 1; serial = 1 }) (object 3) ≡ codes "bind 1 3"
unfolding digits
row_bind = refl

row_destroyed : destroyed_text (record { slot = 0; serial = 1 }) (object 3) 9 ≡ codes "destroyed 0 3 9"
unfolding digits
row_destroyed = refl

row_sent : sent_text 0 (record { bytes = 2 ∷ 0 ∷ []; tokens = [] } ∷ record { bytes = 171 ∷ []; tokens = [] } ∷ []) ≡ codes "out 0 0200ab -"
unfolding digits
row_sent = refl

row_tokens : sent_text 1 (record { bytes = 2 ∷ []; tokens = record { 0 = pos 7 } ∷ [] } ∷ record { bytes = 3 ∷ []; tokens = record { 0 = pos 9 } ∷ [] } ∷ [])
    ≡ codes "out 1 0203 7,9"
unfolding digits
row_tokens = refl

row_record : recording_of (record { number = 1; line = codes "client"; answer = codes "client 0 1" ∷ [] }
    ∷ record { number = 4; line = codes "read 0"; answer = codes "fault WouldBlock" ∷ [] } ∷ [])
    ≡ codes "1 client" ∷ codes "> client 0 1" ∷ codes "4 read 0" ∷ codes "> fault WouldBlock" ∷ []
unfolding digits
row_record = refl
