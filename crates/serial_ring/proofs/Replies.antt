-- The replies through each step.
use Rattle.std.proofs.Common.{◌≡◌, ◌≢◌, ℕ, ◌+◌, ◌%◌, ◌^◌, ◌<◌, Bool, true, false, List, ◌∷◌, ◌++◌, length, get_or, set, Some, None, ap, ◌∙◌, arith}
use Rattle.std.proofs.lemmas.List.{get_or-set_same, get_or-set_other}
use Rattle.std.specs.declared.option.Option.{Option}
use mathlib.Core.Option.{none, some}
use mathlib.Core.Option as maybe
use Rattle.shared_rings.specs.Placed.{placed}
use Rattle.shared_rings.proofs.Placed.{next_placed}
use Rattle.shared_rings.proofs.Shelf as shelves
use Rattle.status_report.specs.declared.Reply.{Reply}
use Rattle.status_report.specs.Replies.{IsReply}
use Rattle.serial_ring.proofs.Bytes.{below, above}
use Rattle.serial_ring.specs.Rule.{Replies, reply_head_word, reply_tail_word, all_words}

abbrev pub Homes : Type 0
Homes = List (maybe.Option (Option Reply))

module _ (words : List ℕ) (homes : Homes) (answered got : List Reply) (given : ℕ) where
  -- another word changes
  pub replies_stay : (filling emptying : Bool) → Replies words homes answered got given filling emptying → (i x : ℕ) → reply_head_word ≢ i → reply_tail_word ≢ i → Replies (set words i x) homes answered got given filling emptying
  replies_stay filling emptying r i x no_head no_tail = record {
    rest = r.rest;
    fifo = r.fifo;
    texts = r.texts;
    shelf = r.shelf;
    held = r.held;
    short = r.short;
    head = get_or-set_other words i reply_head_word x 0 no_head ∙ r.head;
    tail = get_or-set_other words i reply_tail_word x 0 no_tail ∙ r.tail;
  }

  pub replies_reached : (emptying : Bool) → Replies words homes answered got given false emptying → length answered < given + 16 → Replies words (set homes (length answered % 16) none) answered got given true emptying
  replies_reached emptying r room = record {
    rest = r.rest;
    fifo = r.fifo;
    texts = r.texts;
    shelf = shelves.reach 16 homes answered got given r.shelf room;
    held = r.held;
    short = r.short;
    head = r.head;
    tail = r.tail;
  }

  pub replies_given : (emptying : Bool) (x : Reply) (new : ℕ) → Replies words homes answered got given true emptying → length words ≡ all_words → IsReply x → length answered < 2 ^ 62 → new ≡ length answered + 1
      → Replies (set words reply_head_word new) (set homes (length answered % 16) (some (Some x))) (x ∷ answered) got given false emptying
  replies_given emptying x new r wide text short count = record {
    rest = x ∷ r.rest;
    fifo = ap (λ (l : List Reply). x ∷ l) r.fifo;
    texts = (text, r.texts);
    shelf = shelves.fill 16 homes answered got given x r.shelf;
    held = r.held;
    short = omega arith;
    head = get_or-set_same words reply_head_word new 0 (omega arith) ∙ (let c : new ≡ length (x ∷ answered) = omega arith in c);
    tail = get_or-set_other words reply_head_word reply_tail_word new 0 (below reply_tail_word reply_head_word (omega arith)) ∙ r.tail;
  }

  pub next_reply : (filling emptying : Bool) → Replies words homes answered got given filling emptying → length got < get_or words reply_head_word 0
      → (x : Reply) × (rest : List Reply) × (placed answered (length got) ≡ some x) × (answered ≡ rest ++ x ∷ got)
  next_reply filling emptying r more = let h = r.head in let n = next_placed answered r.rest got r.fifo (omega arith) in (n.0, n.1, n.2, n.3)

  pub replies_grasped : (filling : Bool) (x : Reply) (rest : List Reply) → Replies words homes answered got given filling false → placed answered (length got) ≡ some x → answered ≡ rest ++ x ∷ got
      → Replies words (set homes (length got % 16) none) answered (x ∷ got) given filling true
  replies_grasped filling x rest r there e =
      let held = r.held in record {
        rest = rest;
        fifo = e;
        texts = r.texts;
        shelf = shelves.grasp 16 homes answered got given filling x r.shelf there;
        held = omega arith;
        short = r.short;
        head = r.head;
        tail = r.tail;
      }

  pub replies_back : (filling : Bool) (new : ℕ) → Replies words homes answered got given filling true → length words ≡ all_words → new ≡ given + 1
      → Replies (set words reply_tail_word new) (set homes (given % 16) (some None)) answered got (given + 1) filling false
  replies_back filling new r wide count =
      let held : length got ≡ given + 1 = r.held in record {
        rest = r.rest;
        fifo = r.fifo;
        texts = r.texts;
        shelf = shelves.give 16 homes answered got given filling r.shelf (omega arith);
        held = omega arith;
        short = r.short;
        head = get_or-set_other words reply_tail_word reply_head_word new 0 (above reply_head_word reply_tail_word (omega arith)) ∙ r.head;
        tail = get_or-set_same words reply_tail_word new 0 (omega arith) ∙ count;
      }
