-- What a host's log says through each call.
use Rattle.std.proofs.Common.{◌≡◌, ℕ, ◌+◌, ◌^◌, ◌≤◌, ◌<◌, Bool, true, false, cond, List, [], ◌∷◌, ◌++◌, length, reverse, drop, Some, None, IfSome, refl, sym, ap, ◌∙◌, subst, arith}
use Rattle.std.specs.declared.option.Option.{Option}
use Rattle.std.proofs.lemmas.List.{length-reverse}
use Rattle.status_report.specs.declared.Reply.{Reply}
use Rattle.realtime_flags.specs.declared.words.Flag.{Flag}
use Rattle.realtime_flags.specs.declared.words.Raise.{Raise}
use Rattle.realtime_flags.specs.Bytes.{flag_of_byte}
use Rattle.status_report.specs.Answering.{lfs_in, is_banner, banners_in}
use Rattle.status_report.proofs.Banners.{banners_first}
use Rattle.serial_ring.specs.Marks.{Mark, Follows, last_of}
use Rattle.serial_ring.specs.Lists.{answers_behind_mark, with_greeting, AnswersStored}
use Rattle.serial_ring.specs.Lists as link
use Rattle.host_journal.specs.Links as host
use Rattle.host_journal.specs.Links.{AreGreetings}
use Rattle.host_journal.specs.Ports.{TakesByte, AreGreeted, SeemsFull, AnswersLines}
use Rattle.host_journal.specs.Raises.{raised_to, raises_in}
use Rattle.host_journal.specs.Steps.{HostLog, stored_in, latest_got, marks_in, marks_at_banners}
use Rattle.host_journal.specs.Steps.PortStep.{stored, dropped, marked, raised, got}
use Rattle.link_ports.specs.Hosts.{HostDid, LooksForRoom}
use Rattle.link_ports.proofs.Lists.{reverse_on, fewer_behind, since_drops, same_lines_behind}

pub three_some : {P Q S R : Reply → Type 0} (o : Option Reply) → IfSome o P → IfSome o Q → IfSome o S → ((r : Reply) → P r → Q r → S r → R r) → IfSome o R
three_some None p q s all = tt
three_some (Some r) p q s all = all r p q s

module _ (bytes bytes' marks marks' : List ℕ) (closed closed' : Bool) (replies replies' : List Reply) (greeted greeted' : List Mark) (raises raises' : List Raise) (moments moments' : List ℕ) (h : HostLog) (d : HostDid bytes marks closed replies greeted raises moments h) where
  count : length (stored_in h) ≡ length bytes
  count = ap length d.bytes_are ∙ length-reverse bytes

  -- the same marks of the same Banners
  same_greeted : (h' : HostLog) → latest_got h' ≡ latest_got h → marks_at_banners h' ≡ marks_at_banners h → greeted' ≡ greeted → AreGreeted h' greeted'
  same_greeted h' l m e = record {
    each = ap length e ∙ (d.greeted_are.each ∙ ap banners_in (sym l));
    stored = subst (λ (z : List (List ℕ) × List Mark). AreGreetings z.0 z.1) (λ i. (sym m i, sym e i)) d.greeted_are.stored;
  }

  pub byte_stored : (b : ℕ) → bytes' ≡ b ∷ bytes → marks' ≡ marks → closed' ≡ closed → (replies' ≡ replies) × (greeted' ≡ greeted) → raises' ≡ raises → moments' ≡ moments → HostDid bytes' marks' closed' replies' greeted' raises' moments' (stored b ∷ h)
  byte_stored b e m c g r w = record {
    bytes_are = ap (λ l. l ++ b ∷ []) d.bytes_are ∙ (sym (reverse_on b bytes) ∙ sym (ap reverse e));
    marks_are = d.marks_are ∙ sym m;
    shut_is = d.shut_is ∙ sym c;
    replies_are = d.replies_are ∙ sym (ap reverse g.0);
    latest_are = d.latest_are ∙ sym g.0;
    greeted_are = same_greeted (stored b ∷ h) refl refl g.1;
    raises_are = d.raises_are ∙ sym r;
    moments_are = d.moments_are ∙ sym w;
  }

  pub byte_dropped : (b : ℕ) → bytes' ≡ bytes → marks' ≡ marks → closed' ≡ closed → (replies' ≡ replies) × (greeted' ≡ greeted) → raises' ≡ raises → moments' ≡ moments → HostDid bytes' marks' closed' replies' greeted' raises' moments' (dropped b ∷ h)
  byte_dropped b e m c g r w = record {
    bytes_are = d.bytes_are ∙ sym (ap reverse e);
    marks_are = d.marks_are ∙ sym m;
    shut_is = d.shut_is ∙ sym c;
    replies_are = d.replies_are ∙ sym (ap reverse g.0);
    latest_are = d.latest_are ∙ sym g.0;
    greeted_are = same_greeted (dropped b ∷ h) refl refl g.1;
    raises_are = d.raises_are ∙ sym r;
    moments_are = d.moments_are ∙ sym w;
  }

  pub mark_stored : bytes' ≡ bytes → marks' ≡ length bytes ∷ marks → closed' ≡ closed → (replies' ≡ replies) × (greeted' ≡ greeted) → raises' ≡ raises → moments' ≡ moments → HostDid bytes' marks' closed' replies' greeted' raises' moments' (marked ∷ h)
  mark_stored e m c g r w = record {
    bytes_are = d.bytes_are ∙ sym (ap reverse e);
    marks_are = (λ i. count i ∷ d.marks_are i) ∙ sym m;
    shut_is = d.shut_is ∙ sym c;
    replies_are = d.replies_are ∙ sym (ap reverse g.0);
    latest_are = d.latest_are ∙ sym g.0;
    greeted_are = same_greeted (marked ∷ h) refl refl g.1;
    raises_are = d.raises_are ∙ sym r;
    moments_are = d.moments_are ∙ sym w;
  }

  -- a reply more, with its mark, if it is a Banner
  module _ (x : Reply) (k : Mark) (is : greeted' ≡ with_greeting x k greeted) (follows : is_banner x ≡ true → Follows marks greeted k) where
    greeted_more : AreGreeted (got x ∷ h) greeted'
    greeted_more = record {
      each = ap length is ∙ (let n = d.greeted_are.each in let f = banners_first x (latest_got h) in let o = one_more (is_banner x) in omega arith);
      stored = subst (λ (z : List Mark). AreGreetings (marks_at_banners (got x ∷ h)) z) (sym is) (by_banner (is_banner x) follows);
    }
      where
        one_more : (t : Bool) → length (cond t (k ∷ greeted) greeted) ≡ cond t 1 0 + length greeted
        one_more true = omega arith
        one_more false = omega arith

        by_banner : (t : Bool) → (t ≡ true → Follows marks greeted k) → AreGreetings (cond t (marks_in h ∷ marks_at_banners h) (marks_at_banners h)) (cond t (k ∷ greeted) greeted)
        by_banner true follows = (subst (λ (m : List ℕ). Follows m greeted k) (sym d.marks_are) (follows refl), d.greeted_are.stored)
        by_banner false follows = d.greeted_are.stored

    pub answers_lines : replies' ≡ x ∷ replies → AnswersStored bytes replies' greeted' → AnswersLines (got x ∷ h)
    answers_lines g few = record {
      greeted = greeted';
      are = greeted_more;
      few =
          let a : answers_behind_mark (x ∷ latest_got h) ≡ answers_behind_mark replies' = ap answers_behind_mark (ap (λ (l : List Reply). x ∷ l) d.latest_are ∙ sym g) in
          let l = same_lines_behind (last_of greeted').1 bytes in
          let e = ap (λ z. lfs_in (drop (last_of greeted').1 z)) d.bytes_are in omega arith;
    }

  -- what a byte needs
  pub may_store : TakesByte h → (closed ≡ false) × (length bytes < 2 ^ 31)
  may_store t = (sym d.shut_is ∙ t.going, (let l = length-reverse bytes in let e = ap length d.bytes_are in let f = t.few in omega arith))

  -- where the link had no room
  pub seems_full : (room tail : ℕ) → length bytes ≡ tail + room → length bytes ≤ tail + length (link.maybe_unread bytes replies greeted) → SeemsFull room h
  seems_full room tail full unread = record {
    greeted = greeted;
    are = d.greeted_are;
    full =
        let n : ℕ = (last_of greeted).1 in
        let k : ℕ = answers_behind_mark replies in
        let f = fewer_behind k (link.since n bytes) in
        let s = ap (λ z. length (host.behind_lf k z)) (since_drops n bytes) in
        let e : length (host.behind_lf (answers_behind_mark (latest_got h)) (drop n (stored_in h))) ≡ length (host.behind_lf k (drop n (reverse bytes))) = (λ i. length (host.behind_lf (answers_behind_mark (d.latest_are i)) (drop n (d.bytes_are i)))) in omega arith;
  }

  -- how often the link was looked at for room
  module _ (room k s loads shown : ℕ) (looks : LooksForRoom room h k s) (anew : length bytes ≡ s + room → loads ≡ k + 1) where
    pub looks_and_stores : (b : ℕ) → (¬ (length bytes ≡ s + room) → (loads ≡ k) × (shown ≡ s)) → length bytes < shown + room → LooksForRoom room (stored b ∷ h) loads shown
    looks_and_stores b kept there = (k, s, looks, record { look = record { anew = λ e. anew (sym count ∙ e); kept = λ n. kept (λ e. n (count ∙ e)) }; there = (let c = count in omega arith) })

    pub looks_and_drops : (b : ℕ) → length bytes ≡ s + room → length bytes ≡ shown + room → LooksForRoom room (dropped b ∷ h) loads shown
    looks_and_drops b before none = (k, s, looks, record { before = count ∙ before; look = anew before; none = count ∙ none })

-- a byte is raised, whose flag goes to those that were raised, if it has one
pub byte_raised : (bytes marks : List ℕ) (closed : Bool) (replies : List Reply) (greeted : List Mark) (raises raises' : List Raise) (moments : List ℕ) (h : HostLog) (b : ℕ) → HostDid bytes marks closed replies greeted raises moments h
    → ((f : Flag) → flag_of_byte b ≡ Some f → (down : Bool) × (raises' ≡ record { flag = f; down = down } ∷ raises)) → (flag_of_byte b ≡ None → raises' ≡ raises)
    → (down : Bool) × HostDid bytes marks closed replies greeted raises' moments (raised b down ∷ h)
byte_raised bytes marks closed replies greeted raises raises' moments h b d one none = by_flag (flag_of_byte b) refl
  where
    raised_as : (down : Bool) → raises_in (raised b down ∷ h) ≡ raises' → HostDid bytes marks closed replies greeted raises' moments (raised b down ∷ h)
    raised_as down are = record {
      bytes_are = d.bytes_are;
      marks_are = d.marks_are;
      shut_is = d.shut_is;
      replies_are = d.replies_are;
      latest_are = d.latest_are;
      greeted_are = record { each = d.greeted_are.each; stored = d.greeted_are.stored };
      raises_are = are;
      moments_are = d.moments_are;
    }

    by_flag : (o : Option Flag) → flag_of_byte b ≡ o → (down : Bool) × HostDid bytes marks closed replies greeted raises' moments (raised b down ∷ h)
    by_flag None e = (false, raised_as false (ap (λ o. raised_to o false (raises_in h)) e ∙ (d.raises_are ∙ sym (none e))))
    by_flag (Some f) e =
        let r = one f e in let found : Raise = record { flag = f; down = r.0 } in
        (r.0, raised_as r.0 (ap (λ o. raised_to o r.0 (raises_in h)) e ∙ (ap (λ (rs : List Raise). found ∷ rs) d.raises_are ∙ sym r.1)))
