use Rattle.vault_wire.proofs.answer.answer_text.Goals as goal

pub returns : goal.returns
returns c =
    rw (
      c.in_ok-extend_from_slice.ensures.items,
      c.into_bytes-bytes.ensures.value,
      c.in_ok-push_str.ensures.bytes,
      c.in_ok-push_close.ensures,
      c.in_ok-push_allow.ensures,
      c.in_ok-push_length.ensures,
      c.in_ok-push_field.ensures,
      c.in_ok-text.ensures,
    )
