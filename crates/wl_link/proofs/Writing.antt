-- A message written behind the bytes that wait in a storage.
use Rattle.std.proofs.Common.{◌≡◌, ◌≢◌, ◌↔◌, ℕ, ◌+◌, ◌-◌, ◌<◌, ◌≤◌, List, [], ◌++◌, length, take, drop, slice_range, Result, Ok, Err, IfOk, OnOk, OnErr, refl, sym, subst, ◌∙◌, ap, arith, length-append, append-nil}
use Rattle.std.proofs.lemmas.List.{length-take, length-take-le, length-drop, take_at, drop-append-le}
use Rattle.std.proofs.lemmas.Slice.{between_is}
use borrow.Rule.Slice.PartMut.{put_mid, post_of}
use Rattle.wl_wire.specs.declared.argument.Token.{Token}
use Rattle.wl_wire.specs.declared.error.MessageWriteError.{MessageWriteError}
use Rattle.wl_wire.specs.declared.error.MessageWriteError.TheVariants as errors
use Rattle.wl_wire.specs.Message.{WireMessage, size, spelling, tokens as tokens_of}
use Rattle.wl_wire.proofs.Spelling.RoundTrip.{length-spelling}
use Rattle.wl_link.specs.Inside.WaitingBytes.{Waiting, Appended, waits, arrived}
use Rattle.wl_link.specs.Link.{TokensAsk}
use Rattle.wl_link.proofs.Receiving.{front_and_part}
use Rattle.wl_sets.proofs.Trees.{written}

-- what is put behind all is put behind those that are left
pub queued_behind : {X E : Type 0} (r : Result ℕ E) (start : ℕ) (old new more : List X) → start ≤ length old → OnOk r (new ≡ old ++ more)
    → OnOk r (drop start new ≡ drop start old ++ more)
queued_behind (Ok n) start old new more within is = ap (drop start) is ∙ drop-append-le start old more within
queued_behind (Err e) start old new more within is = tt

-- where more follows the front of a list, more follows a part that ends there
range_longer : (old new piece : List ℕ) (start end n : ℕ) → start ≤ end → end ≤ length old → take (end + n) new ≡ take end old ++ piece
    → slice_range new start (end + n) ≡ slice_range old start end ++ piece
range_longer old new piece start end n ordered within longer =
    between_is new start (end + n) ∙ ap (λ (ys : List ℕ). drop start ys) longer
    ∙ drop-append-le start (take end old) piece (omega (arith, length-take-le end old within))
    ∙ ap (λ (ys : List ℕ). ys ++ piece) (sym (between_is old start end))

-- the same of buffers that are equal
pub appended_as : (m : WireMessage) (fds fds' : List Token) {X : Type 0} (answer : Result X MessageWriteError) (before before' after after' : Waiting)
    → before ≡ before' → after ≡ after' → Appended before' fds m answer after' fds' → Appended before fds m answer after fds'
appended_as m fds fds' answer before before' after after' same same' is =
    subst (λ (b : Waiting). Appended b fds m answer after fds') (sym same) (subst (λ (a : Waiting). Appended before' fds m answer a fds') (sym same') is)

module _ (m : WireMessage) (storage payload' : List ℕ) (start end : ℕ) (fds fds' : List Token)
    (ordered : start ≤ end) (within : end ≤ length storage) where
  -- what the slice behind `end` becomes
  abbrev storage' : List ℕ
  storage' = put_mid end (length storage - end) storage payload'

  spelled_behind : (n : ℕ) (rest : List ℕ) → n ≡ size m → payload' ≡ spelling m ++ rest
      → slice_range storage' start (end + n) ≡ slice_range storage start end ++ spelling m
  spelled_behind n rest counted written =
      let len : length (spelling m) ≡ n = omega (arith, length-spelling m) in
      let longer : length payload' ≡ length (spelling m) + length rest = ap length written ∙ length-append (spelling m) rest in
      let front : take n payload' ≡ spelling m = ap (λ (ys : List ℕ). take n ys) written ∙ take_at (spelling m) rest n len in
      range_longer storage storage' (spelling m) start end n ordered within
      (front_and_part (take end storage) payload' (post_of end (length storage - end) storage) end n (length-take-le end storage within) (omega arith)
      ∙ ap (λ (ys : List ℕ). take end storage ++ ys) front)

  same_front : slice_range storage' start (end + 0) ≡ slice_range storage start end
  same_front =
      range_longer storage storage' [] start end 0 ordered within
      (front_and_part (take end storage) payload' (post_of end (length storage - end) storage) end 0 (length-take-le end storage within) (omega arith))
      ∙ append-nil (slice_range storage start end)

  -- what is written behind the bytes that wait leaves them
  pub kept_front : slice_range storage' start end ≡ slice_range storage start end
  kept_front = subst (λ (k : ℕ). slice_range storage' start k ≡ slice_range storage start end) (omega arith) same_front

  same_length : (payload : List ℕ) → length payload' ≡ length payload → length payload ≡ length storage - end → length storage' ≡ length storage
  same_length payload same len =
      let front : length (take end storage) ≡ end = length-take-le end storage within in
      let post : length (post_of end (length storage - end) storage) ≡ 0 = omega (arith, length-drop (length storage - end) (drop end storage), length-drop end storage) in
      omega (arith, front, post, length-append (take end storage) (payload' ++ post_of end (length storage - end) storage), length-append payload' (post_of end (length storage - end) storage))

  -- a vector whose items are the storage, after that
  pub rewritten : (payload items : List ℕ) (len to : ℕ) → length payload' ≡ length payload → length payload ≡ length storage - end → storage ≡ items → length storage ≡ len
      → waits (slice_range (take len (storage' ++ drop (length storage') items)) start to) len ≡ waits (slice_range storage' start to) (length storage')
  rewritten payload items len to same room is counted =
      let whole = same_length payload same room in
      ap (λ (ys : List ℕ). waits (slice_range ys start to) len) (written items storage' len (sym counted ∙ ap length is) (whole ∙ ap length is))
      ∙ ap (waits (slice_range storage' start to)) (sym counted ∙ sym whole)

  -- so a buffer with such a storage is as it was
  pub same_buffer : (payload : List ℕ) → length payload' ≡ length payload → length payload ≡ length storage - end
      → waits (slice_range storage' start end) (length storage') ≡ waits (slice_range storage start end) (length storage)
  same_buffer payload same len =
      ap (λ (bs : List ℕ). waits bs (length storage')) kept_front ∙ ap (waits (slice_range storage start end)) (same_length payload same len)

  fits : (result : Result ℕ MessageWriteError) (room : ℕ) → result ≢ Err errors.TooLong → result ≢ Err errors.BufferTooSmall
      → ((result ≡ Err errors.TooLong) ↔ (65535 < size m)) → ((result ≡ Err errors.BufferTooSmall) ↔ ((size m ≤ 65535) × (room < size m)))
      → (size m ≤ 65535) × (size m ≤ room)
  fits result room not_long not_small long small =
      let above : 65535 < size m → ⊥ = λ lt. not_long (long.1 lt) in
      let at_most : size m ≤ 65535 = omega (arith, above) in
      let over : room < size m → ⊥ = λ lt. not_small (small.1 (at_most, lt)) in
      (at_most, omega (arith, over))

  room_behind : (payload : List ℕ) → length payload ≡ length storage - end → size m ≤ length payload → length (slice_range storage start end) + size m ≤ length storage
  room_behind payload len le = omega (arith, length-take (end - start) (drop start storage), length-drop start storage)

  pub appended_behind : (result : Result ℕ MessageWriteError) (payload : List ℕ)
      → length payload ≡ length storage - end
      → IfOk result (λ n. (n ≡ size m) × (payload' ≡ spelling m ++ drop n payload))
      → OnOk result (fds' ≡ fds ++ tokens_of m.args)
      → ((result ≡ Err errors.TooLong) ↔ (65535 < size m))
      → ((result ≡ Err errors.BufferTooSmall) ↔ ((size m ≤ 65535) × (length payload < size m)))
      → (result ≡ Err errors.OutOfMemory → TokensAsk fds m)
      → OnErr result ((payload' ≡ payload) × (fds' ≡ fds))
      → Appended (waits (slice_range storage start end) (length storage)) fds m result (waits (slice_range storage' start (end + arrived result)) (length storage)) fds'
  appended_behind (Ok n) payload len written tokens long small asks same =
      let fit = fits (Ok n) (length payload) (λ e. cc) (λ e. cc) long small in
      (fit.0, room_behind payload len fit.1, ap (λ (bs : List ℕ). waits bs (length storage)) (spelled_behind n (drop n payload) written.0 written.1), tokens)
  appended_behind (Err errors.TooLong) payload len written tokens long small asks same =
      (long.0 refl, ap (λ (bs : List ℕ). waits bs (length storage)) same_front, same.1)
  appended_behind (Err errors.BufferTooSmall) payload len written tokens long small asks same =
      ((small.0 refl).0, ap (λ (bs : List ℕ). waits bs (length storage)) same_front, same.1)
  appended_behind (Err errors.OutOfMemory) payload len written tokens long small asks same =
      let fit = fits (Err errors.OutOfMemory) (length payload) (λ e. cc) (λ e. cc) long small in
      (fit.0, room_behind payload len fit.1, asks refl, ap (λ (bs : List ℕ). waits bs (length storage)) same_front, same.1)

  -- a message without tokens, written there in one pass
  pub appended_once : {X : Type 0} (x : X) (n : ℕ) (payload : List ℕ) → length payload' ≡ length payload → length payload ≡ length storage - end → n ≤ 65535
      → n ≤ length payload → n ≡ size m → payload' ≡ spelling m ++ drop n payload → tokens_of m.args ≡ [] → fds' ≡ fds
      → Appended (waits (slice_range storage start end) (length storage)) fds m (Ok x) (waits (slice_range storage' start (end + n)) (length storage')) fds'
  appended_once x n payload whole len small within-payload counted written none same = (
    omega (arith, counted),
    room_behind payload len (omega (arith, counted)),
    ap (λ (bs : List ℕ). waits bs (length storage')) (spelled_behind n (drop n payload) counted written) ∙ ap (waits (slice_range storage start end ++ spelling m)) (same_length payload whole len),
    same ∙ sym (append-nil fds) ∙ ap (λ (ts : List Token). fds ++ ts) (sym none),
  )
