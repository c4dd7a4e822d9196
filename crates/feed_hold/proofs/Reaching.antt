-- How states are reached.
use Rattle.std.proofs.Common.{◌≡◌, ◌⊎◌, ◌&&◌, Bool, true, false, not, refl, sym, inl, inr, Some, subst, arith}
use Rattle.code_table.specs.declared.flags.Exec.{Exec}
use Rattle.feed_hold.specs.declared.Motion.{Motion}
use Rattle.feed_hold.specs.declared.Motion.TheVariants.{Idle, Run, Holding, Held, Jog, Cancelling, Stopping, Alarm}
use Rattle.feed_hold.specs.Motions.{Call, Reached, becomes, hold_byte, cancel_byte, start_byte, asks, after_start, after_requests, after, after_word}
use Rattle.feed_hold.specs.Motions.Call.{on_exec, on_start, on_limit, on_pause, on_stopped, on_drained, on_unlock}

-- the state is the one before, or is reached from it
abbrev pub StaysOrReaches : Motion → Call → Motion → Type 0
StaysOrReaches now call was = (now ≡ was) ⊎ Reached now call was

by_hold : (word : Exec) (queued : Bool) (was : Motion) → asks word hold_byte ≡ true → StaysOrReaches (becomes was).held (on_exec word queued) was
by_hold word queued Idle e = inr (inl (refl, inl (word, queued, refl, e)))
by_hold word queued Run e = inr (refl, (word, queued, refl, e))
by_hold word queued Jog e = inr (refl, inl (word, queued, refl, e))
by_hold word queued was e = inl refl

by_start : (word : Exec) (start queued : Bool) (was : Motion) → asks word start_byte ≡ start → asks word hold_byte ≡ false
    → StaysOrReaches (after_start (start && not false) queued was) (on_exec word queued) was
by_start word false queued was e none = inl refl
by_start word true true Idle e none = inr (inl (inl refl, (word, refl, e, none)))
by_start word true true Held e none = inr (inl (inr refl, (word, refl, e, none)))
by_start word true false Held e none = inr (inl (refl, (word, refl, e, none)))
by_start word true true was e none = inl refl
by_start word true false was e none = inl refl

-- what a hold left, a cancel and a start leave too
hold_stays : (cancel start queued : Bool) (was : Motion) → after_requests true cancel start queued was ≡ (becomes was).held
hold_stays cancel start queued was = grind arith

by_cancel : (word : Exec) (cancel start queued : Bool) (was : Motion) → asks word cancel_byte ≡ cancel → asks word start_byte ≡ start → asks word hold_byte ≡ false
    → StaysOrReaches (after_requests false cancel start queued was) (on_exec word queued) was
by_cancel word false start queued was ec es none = by_start word start queued was es none
by_cancel word true true true Jog ec es none = inr (refl, inr (word, true, refl, ec))
by_cancel word true true false Jog ec es none = inr (refl, inr (word, false, refl, ec))
by_cancel word true false queued Jog ec es none = inr (refl, inr (word, queued, refl, ec))
by_cancel word true start queued was ec es none = by_start word start queued was es none

by_word : (hold : Bool) (word : Exec) (queued : Bool) (was : Motion) → asks word hold_byte ≡ hold
    → StaysOrReaches (after_requests hold (asks word cancel_byte) (asks word start_byte) queued was) (on_exec word queued) was
by_word true word queued was e =
    subst (λ now. StaysOrReaches now (on_exec word queued) was) (sym (hold_stays (asks word cancel_byte) (asks word start_byte) queued was)) (by_hold word queued was e)
by_word false word queued was e = by_cancel word (asks word cancel_byte) (asks word start_byte) queued was refl refl e

-- a state that the table has is the one that comes
told : (call : Call) (was next now : Motion) → Some next ≡ Some now → StaysOrReaches next call was → StaysOrReaches now call was
told call was next now e follows = subst (λ n. StaysOrReaches n call was) (let i : next ≡ now = cc in i) follows

by_begin : (jog : Bool) (was now : Motion) → after (on_start jog) was ≡ Some now → StaysOrReaches now (on_start jog) was
by_begin true Idle now e = told (on_start true) Idle Jog now e (inr (refl, refl))
by_begin false Idle now e = told (on_start false) Idle Run now e (inr (inr (refl, refl)))
by_begin true Run now e = told (on_start true) Run Run now e (inl refl)
by_begin false Run now e = told (on_start false) Run Run now e (inl refl)
by_begin true Jog now e = told (on_start true) Jog Jog now e (inl refl)
by_begin false Jog now e = told (on_start false) Jog Jog now e (inl refl)
by_begin jog was now e = grind arith

by_limit : (was now : Motion) → after on_limit was ≡ Some now → StaysOrReaches now on_limit was
by_limit Idle now e = told on_limit Idle Alarm now e (inr (inl (refl, refl)))
by_limit Run now e = told on_limit Run Stopping now e (inr (refl, refl))
by_limit was now e = cc

by_pause : (was now : Motion) → after on_pause was ≡ Some now → StaysOrReaches now on_pause was
by_pause Idle now e = told on_pause Idle Held now e (inr (inl (refl, inr refl)))
by_pause was now e = cc

by_stop : (was now : Motion) → after on_stopped was ≡ Some now → StaysOrReaches now on_stopped was
by_stop Holding now e = told on_stopped Holding Held now e (inr (inr (refl, refl)))
by_stop Cancelling now e = told on_stopped Cancelling Idle now e (inr (inr (inr (inl (refl, refl)))))
by_stop Stopping now e = told on_stopped Stopping Alarm now e (inr (inr (refl, refl)))
by_stop was now e = cc

by_drain : (was now : Motion) → after on_drained was ≡ Some now → StaysOrReaches now on_drained was
by_drain Idle now e = told on_drained Idle Idle now e (inl refl)
by_drain Run now e = told on_drained Run Idle now e (inr (inr (inl (inl refl, refl))))
by_drain Jog now e = told on_drained Jog Idle now e (inr (inr (inl (inr refl, refl))))
by_drain was now e = cc

by_unlock : (was now : Motion) → after on_unlock was ≡ Some now → StaysOrReaches now on_unlock was
by_unlock Alarm now e = told on_unlock Alarm Idle now e (inr (inr (inr (inr (refl, refl)))))
by_unlock was now e = cc

pub reached : (call : Call) (was now : Motion) → after call was ≡ Some now → StaysOrReaches now call was
reached (on_exec word queued) was now e = told (on_exec word queued) was (after_word word queued was) now e (by_word (asks word hold_byte) word queued was refl)
reached (on_start jog) was now e = by_begin jog was now e
reached on_limit was now e = by_limit was now e
reached on_pause was now e = by_pause was now e
reached on_stopped was now e = by_stop was now e
reached on_drained was now e = by_drain was now e
reached on_unlock was now e = by_unlock was now e
