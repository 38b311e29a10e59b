use denote.Exit.{yes}
use denote.Param.Send.{param_send, param_sync, copied_send, copied_sync, arg_send, arg_sync}
use Rattle.flow_runs.proofs.feeding.fn.run_all.join_mut+arg3+FnOnce.call_once.Goals as goal

pub join_mut+arg3-requires : goal.join_mut+arg3-requires
join_mut+arg3-requires g c =
    let h = c.requires.1.1.1.1.1 in (
      param_send _ _ (arg_send _ yes _ h.0),
      (
        param_send _ _ (arg_send _ yes _ h.1),
        (
          copied_send _ _ (arg_send _ yes _ h.2),
          (
            param_sync _ _ (arg_sync _ yes _ h.3),
            (
              param_sync _ _ (arg_sync _ yes _ h.4),
              (
                param_sync _ _ (arg_sync _ yes _ h.5),
                (
                  copied_sync _ _ (arg_sync _ yes _ h.6),
                  h.7,
                ),
              ),
            ),
          ),
        ),
      ),
    )
