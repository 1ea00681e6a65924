-- How messages that are written one after another are a list of messages that is put.
use Rattle.std.proofs.Common.{ℕ, List, [], ◌∷◌, ◌++◌, Result, Ok, Err, refl, sym, append-nil, inl}
use Rattle.wl_wire.specs.declared.error.IoFault.{IoFault}
use Rattle.wl_link.specs.Exchange.{Queue, Sending}
use Rattle.wl_link.specs.Link.{LinkState, Wrote}
use Rattle.wl_link.specs.Puts.{PutBy, Said}
use Rattle.wl_server_client.specs.Inside.Puts.{Puts}

module _ {T : Type 0} (sends : T → Queue → Result ℕ IoFault → T → Type 0) where
  pub puts_none : (link : LinkState T) → Puts sends link [] (Ok tt) link
  puts_none link = ([], [], (refl, refl, refl, refl))

  -- one message, by whatever put it
  pub puts_by : (before after : LinkState T) (m : Said) (es : List Sending) (answer : Result (Unit {0}) IoFault)
      → PutBy sends before m es answer after
      → Puts sends before (m ∷ []) answer after
  puts_by before after m es (Ok u) put = (es, m ∷ [], (es, Ok u, after, put, ([], [], sym (append-nil es), refl, (refl, refl, refl, refl))))
  puts_by before after m es (Err f) put = (es, [], (es, Err f, after, put, (refl, refl, refl, refl)))

  pub puts_one : (before after : LinkState T) (m : Said) (answer : Result (Unit {0}) IoFault) → Wrote sends before m.message answer after
      → Puts sends before (m ∷ []) answer after
  puts_one before after m answer (es, wrote) = puts_by before after m es answer (inl wrote)

  -- others behind those that were all put
  pub puts_more : (before mid after : LinkState T) (first others : List Said) (answer : Result (Unit {0}) IoFault)
      → Puts sends before first (Ok tt) mid
      → Puts sends mid others answer after → Puts sends before (first ++ others) answer after
  puts_more before mid after [] others answer (es, put, (none, nil, is, same)) more = rw (← same) more
  puts_more before mid after (m ∷ ms) others answer (es, put, (one, Ok u, next, by, (rest, more', is, are, puts))) more =
      let behind = puts_more next mid after ms others answer (rest, more', puts) more in
      (one ++ behind.0, m ∷ behind.1, (one, Ok u, next, by, (behind.0, behind.1, refl, refl, behind.2)))
  puts_more before mid after (m ∷ ms) others answer (es, put, (one, Err f, next, by, (is, are, failed, same))) more = absurd cc

  -- the first ones failed
  pub puts_failed : (before after : LinkState T) (first others : List Said) (f : IoFault) → Puts sends before first (Err f) after
      → Puts sends before (first ++ others) (Err f) after
  puts_failed before after [] others f (es, put, (none, nil, is, same)) = absurd cc
  puts_failed before after (m ∷ ms) others f (es, put, (one, Ok u, next, by, (rest, more, is, are, puts))) =
      let behind = puts_failed next after ms others f (rest, more, puts) in
      (one ++ behind.0, m ∷ behind.1, (one, Ok u, next, by, (behind.0, behind.1, refl, refl, behind.2)))
  puts_failed before after (m ∷ ms) others f (es, put, (one, Err e, next, by, (is, are, failed, same))) =
      (one, [], (one, Err e, next, by, (refl, refl, failed, same)))
