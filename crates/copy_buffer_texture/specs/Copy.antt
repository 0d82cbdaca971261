-- A copy between linear bytes and a texture: out of a buffer or out of memory into the texture, or out of the texture into a buffer.
use Rattle.measures.specs.declared.Extent3d.{Extent3d}
use Rattle.records.specs.declared.Buffer.{Buffer}
use Rattle.records.specs.declared.Device.{Device}
use Rattle.records.specs.declared.Texture.{Texture}
use Rattle.records.specs.declared.TexelCopyTextureInfo.{TexelCopyTextureInfo}
use Rattle.records.specs.declared.TexelCopyBufferLayout.{TexelCopyBufferLayout}
use Rattle.copy_buffer_texture.specs.declared.UploadSource.{UploadSource}

-- which way, and what is at the other end
pub data Direction : Type 0 where
  Upload : UploadSource → Direction
  Download : Buffer → Direction

pub record Copy : Type 0 where
  pub direction : Direction
  pub device : Device
  pub layout : TexelCopyBufferLayout
  pub texture : Texture
  pub view : TexelCopyTextureInfo
  pub size : Extent3d
