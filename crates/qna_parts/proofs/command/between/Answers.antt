use Rattle.std.proofs.Common.{ℕ, List, ap, inl, inr, rules}
use Rattle.input_rules.specs.Accepted.{accepted}
use Rattle.qna_edges.proofs.Stock.{capped_none}
use Rattle.qna_parts.proofs.Commands.{ends_unopened}
use Rattle.qna_parts.proofs.Delivering.{held_whole, held_part, held_none}
use Rattle.qna_parts.proofs.command.between.Goals as goal

pub returns-in-Err-clause-ends : goal.returns-in-Err-clause-ends
returns-in-Err-clause-ends g c =
    ends_unopened _ _ _ _ _ _ _ (λ is. inl (record { unopened = search rules; told = c.tell_unopened.ensures.told is; untouched = search rules }))
    (λ is. (ap g.R.Sink.paper (c.tell_unopened.ensures.memory is), search rules, search rules)) c.tell_unopened.ensures.ends

pub returns-in-Err-create-clause-ends : goal.returns-in-Err-create-clause-ends
returns-in-Err-create-clause-ends g c =
    ends_unopened _ _ _ _ _ _ _ (λ is. inr (record { rose = search rules; told = search rules; uncreated = search rules; unread = search rules }))
    (λ is. (search rules, search (rules, capped_none), search rules)) (search rules)

pub returns-clause-ends : goal.returns-clause-ends
returns-clause-ends g c =
    let made = λ (text : List ℕ). g.M.Make.text c.args.maker.now c.args.plan.now (accepted c.args.plan.now text) in
    record {
      done = λ is. record {
        written = λ tells. held_whole _ _ _ _ _ made (c.in-Ok.ensures.left tells).0 (c.in-Ok-create.ensures.told (search rules)) (search rules) (c.transfer-status.ensures.done is);
        reported = λ tells. search rules;
        read = record {
          once = search (rules, capped_none);
          stands = λ tells. search rules;
          whole = λ tells. search rules;
        };
        created = search rules;
        unfailed = search (rules, capped_none);
        unreported = search rules;
      };
      open_fault = λ is. search rules;
      read_fault = λ is. record { rose = search rules; told = λ tells. search rules; within = λ tells. search rules; emptied = record { created = search rules; empty = λ tells. held_none _ _ _ (c.in-Ok-create.ensures.told (search rules)) (search rules) (c.transfer-status.ensures.untouched (inl is)) } };
      too_much = λ is. record { passed = λ tells. search rules; told = λ tells. search rules; emptied = record { created = search rules; empty = λ tells. held_none _ _ _ (c.in-Ok-create.ensures.told (search rules)) (search rules) (c.transfer-status.ensures.untouched (inr is)) } };
      write_fault = λ is. elim (c.transfer-status.ensures.write_fault is) [
        | inl breaks ↦ inl (record { rose = breaks.rose; told = λ tells. search rules; within = λ tells. search rules; emptied = record { created = search rules; empty = λ tells. held_none _ _ _ (c.in-Ok-create.ensures.told (search rules)) (search rules) breaks.unwritten } })
        | inr breaks ↦ inr (record {
          rose = search rules;
          told = λ tells. search rules;
          held = λ tells. held_part _ _ _ _ _ made (c.in-Ok.ensures.left tells).0 (c.in-Ok-create.ensures.told (search rules)) (search rules) breaks.broken;
          read = record { once = search (rules, capped_none); stands = λ tells. search rules; whole = λ tells. search rules };
          created = search rules;
        })
      ];
      memory = λ is. record {
        unread = record { opens = search rules; creates = search rules; reads = search (rules, capped_none); writes = search rules };
        unwritten = record { opens = search rules; creates = search rules; reads = search rules; writes = search (rules, capped_none) };
        unreported = search rules;
        told = λ tells. search rules;
        held = elim (c.transfer-status.ensures.memory_part is) [
          | inl same ↦ inr (inl (record { created = search rules; empty = λ tells. held_none _ _ _ (c.in-Ok-create.ensures.told (search rules)) (search rules) same }))
          | inr broken ↦ inr (inr (search rules, λ tells. held_part _ _ _ _ _ made (c.in-Ok.ensures.left tells).0 (c.in-Ok-create.ensures.told (search rules)) (search rules) broken))
        ];
      };
      ends = search rules;
    }
